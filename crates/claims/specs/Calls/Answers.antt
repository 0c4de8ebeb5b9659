-- Made by tools/calls --write from the sources: the public calls of crates/answers.
use Rattle.std.specs.Prelude.{ℕ, Option}
use Rattle.answers.specs.declared.Refusal.{Refusal}
use Rattle.answers.proofs as contracts
use Rattle.claims.specs.Call.{Call}

-- Refusal::number(self) -> u8
abbrev pub refusal_number : Call
refusal_number = record {
  lifetimes = 0;
  parameters = contracts.Refusal.number.Kinds.ps;
  result = contracts.Refusal.number.Kinds.r;
  allows = contracts.Refusal.number.Reads.Post;
  Answer = ℕ;
  answer = λ κs x. x;
  Given = Refusal;
  given = λ κs a. a.0;
  Lent = Unit {0};
  lent = λ κs a. tt;
  left = λ κs s. tt;
}

-- Refusal::place(self) -> Option<usize>
abbrev pub refusal_place : Call
refusal_place = record {
  lifetimes = 0;
  parameters = contracts.Refusal.place.Kinds.ps;
  result = contracts.Refusal.place.Kinds.r;
  allows = contracts.Refusal.place.Reads.Post;
  Answer = Option ℕ;
  answer = λ κs x. x;
  Given = Refusal;
  given = λ κs a. a.0;
  Lent = Unit {0};
  lent = λ κs a. tt;
  left = λ κs s. tt;
}
