-- Made by tools/calls --write from the sources: the public calls of crates/numbers.
use Rattle.std.specs.Prelude.{ℕ, Result}
use Rattle.answers.specs.declared.Refusal.{Refusal}
use Rattle.numbers.specs.declared.Before.{Before}
use Rattle.numbers.specs.declared.GroupNumbers.{GroupNumbers}
use Rattle.numbers.specs.declared.Verdict.{Verdict}
use Rattle.numbers.proofs as contracts
use Rattle.claims.specs.Call.{Call}

-- base_sequence(sequence: u16, n: u8) -> u16
abbrev pub base_sequence : Call
base_sequence = record {
  lifetimes = 0;
  parameters = contracts.base_sequence.Kinds.ps;
  result = contracts.base_sequence.Kinds.r;
  allows = contracts.base_sequence.Reads.Post;
  Answer = ℕ;
  answer = λ κs x. x;
  Given = ℕ × ℕ;
  given = λ κs a. (a.0, a.1.0);
  Lent = Unit {0};
  lent = λ κs a. tt;
  left = λ κs s. tt;
}

-- base_timestamp(timestamp: u32, n: u8) -> u32
abbrev pub base_timestamp : Call
base_timestamp = record {
  lifetimes = 0;
  parameters = contracts.base_timestamp.Kinds.ps;
  result = contracts.base_timestamp.Kinds.r;
  allows = contracts.base_timestamp.Reads.Post;
  Answer = ℕ;
  answer = λ κs x. x;
  Given = ℕ × ℕ;
  given = λ κs a. (a.0, a.1.0);
  Lent = Unit {0};
  lent = λ κs a. tt;
  left = λ κs s. tt;
}

-- with_held(held: GroupNumbers, new: GroupNumbers) -> Result<Verdict, Refusal>
abbrev pub with_held : Call
with_held = record {
  lifetimes = 0;
  parameters = contracts.with_held.Kinds.ps;
  result = contracts.with_held.Kinds.r;
  allows = contracts.with_held.Reads.Post;
  Answer = Result Verdict Refusal;
  answer = λ κs x. x;
  Given = GroupNumbers × GroupNumbers;
  given = λ κs a. (a.0, a.1.0);
  Lent = Unit {0};
  lent = λ κs a. tt;
  left = λ κs s. tt;
}

-- after_poured(poured: GroupNumbers, new: GroupNumbers) -> Result<Verdict, Refusal>
abbrev pub after_poured : Call
after_poured = record {
  lifetimes = 0;
  parameters = contracts.after_poured.Kinds.ps;
  result = contracts.after_poured.Kinds.r;
  allows = contracts.after_poured.Reads.Post;
  Answer = Result Verdict Refusal;
  answer = λ κs x. x;
  Given = GroupNumbers × GroupNumbers;
  given = λ κs a. (a.0, a.1.0);
  Lent = Unit {0};
  lent = λ κs a. tt;
  left = λ κs s. tt;
}

-- decide(group: Before, new: GroupNumbers) -> Result<Verdict, Refusal>
abbrev pub decide : Call
decide = record {
  lifetimes = 0;
  parameters = contracts.decide.Kinds.ps;
  result = contracts.decide.Kinds.r;
  allows = contracts.decide.Reads.Post;
  Answer = Result Verdict Refusal;
  answer = λ κs x. x;
  Given = Before × GroupNumbers;
  given = λ κs a. (a.0, a.1.0);
  Lent = Unit {0};
  lent = λ κs a. tt;
  left = λ κs s. tt;
}
