-- Made by tools/calls --write from the sources: the public calls of crates/form.
use Rattle.std.specs.Prelude.{ℕ, Result}
use Rattle.answers.specs.declared.Refusal.{Refusal}
use Rattle.form.specs.declared.Limits.{Limits}
use Rattle.form.proofs as contracts
use Rattle.claims.specs.Call.{Call}

-- Limits::agreed() -> Limits
abbrev pub limits_agreed : Call
limits_agreed = record {
  lifetimes = 0;
  parameters = contracts.Limits.agreed.Kinds.ps;
  result = contracts.Limits.agreed.Kinds.r;
  allows = contracts.Limits.agreed.Reads.Post;
  Answer = Limits;
  answer = λ κs x. x;
  Given = Unit {0};
  given = λ κs a. tt;
  Lent = Unit {0};
  lent = λ κs a. tt;
  left = λ κs s. tt;
}

-- Limits::open(max_l: u8, max_b: u8) -> Result<Limits, Refusal>
abbrev pub limits_open : Call
limits_open = record {
  lifetimes = 0;
  parameters = contracts.Limits.«open».Kinds.ps;
  result = contracts.Limits.«open».Kinds.r;
  allows = contracts.Limits.«open».Reads.Post;
  Answer = Result Limits Refusal;
  answer = λ κs x. x;
  Given = ℕ × ℕ;
  given = λ κs a. (a.0, a.1.0);
  Lent = Unit {0};
  lent = λ κs a. tt;
  left = λ κs s. tt;
}
