-- A public call as the claims see it. Each is a value of this record, on the page of its crate in Calls/; tools/calls makes those pages
-- from the sources.
use Rattle.std.specs.Prelude.{ℕ, ◌≡◌, List}
use denote.Triple.Clauses.{AtExit}
use contract.Lifetimes.{Lfts}
use borrow.Fn.Kinds.{ParamKind, ResultKind, Dens, res_t, ended_of, Out}

-- document 01, "What the promises have to say", speaks of what a contract allows: the answer, and all that was lent
pub record Call : Type 3 where
  -- how many references it is passed
  pub lifetimes : ℕ
  -- the types of its parameters
  pub parameters : List (ParamKind lifetimes)
  -- the type of its result
  pub result : ResultKind lifetimes
  -- what its contract allows: the contract's own reading, and no restatement of it
  pub allows : Out lifetimes parameters result
  -- what it answers: the result; of a reference its content and its place; of references in a struct their contents
  pub Answer : Type 0
  pub answer : (κs : Lfts lifetimes) → (res_t result κs).Denot → Answer
  -- what it is given to be read, in the order of its parameters; of a reference its content
  pub Given : Type 0
  pub given : (κs : Lfts lifetimes) → Dens κs parameters → Given
  -- what is lent to it to be written to, by the names of the parameters: as the call begins, and as it ends
  pub Lent : Type 0
  pub lent : (κs : Lfts lifetimes) → Dens κs parameters → Lent
  pub left : (κs : Lfts lifetimes) → AtExit (ended_of lifetimes parameters result) κs → Lent

-- what is lent to a call that tells where a fault is (02, i): the place, and all else
pub record WithPlace (X : Type 0) : Type 0 where
  pub place : ℕ
  pub rest : X

-- what a call is passed, by the lifetimes of the references
abbrev pub Passed : (call : Call) → Lfts call.lifetimes → Type 0
Passed call κs = Dens κs call.parameters

-- what it returns
abbrev pub Returned : (call : Call) → Lfts call.lifetimes → Type 0
Returned call κs = (res_t call.result κs).Denot

-- its parameters as it ends
abbrev pub Ended : (call : Call) → Lfts call.lifetimes → Type 0
Ended call κs = AtExit (ended_of call.lifetimes call.parameters call.result) κs

-- an outcome that a call's contract allows: given this, with this lent to it, it answers so and leaves so
pub record Outcome (call : Call) (given : call.Given) (lent : call.Lent) (answer : call.Answer) (left : call.Lent) : Type 0 where
  pub κs : Lfts call.lifetimes
  pub passed : Passed call κs
  pub returned : Returned call κs
  pub ended : Ended call κs
  pub allowed : call.allows κs passed returned ended
  pub is_given : call.given κs passed ≡ given
  pub is_lent : call.lent κs passed ≡ lent
  pub is_answer : call.answer κs returned ≡ answer
  pub is_left : call.left κs ended ≡ left

-- a build of a call: any function of what it is given and what is lent to it, each of whose outcomes the contract allows
pub record Build (call : Call) : Type 0 where
  pub run : call.Given → call.Lent → call.Answer × call.Lent
  pub meets : (given : call.Given) (lent : call.Lent) → Outcome call given lent (run given lent).0 (run given lent).1
