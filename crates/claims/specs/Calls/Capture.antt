-- Made by tools/calls --write from the sources: the public calls of crates/capture.
use Rattle.std.specs.Prelude.{ℕ, List, Result}
use Rattle.capture.specs.declared.CaptureError.{CaptureError}
use Rattle.capture.specs.declared.Fault.{Fault}
use Rattle.capture.proofs as contracts
use Rattle.claims.specs.Call.{Call}
use Rattle.claims.specs.Calls.Lent.{LentOut}

-- room() -> [u8; LARGEST]
abbrev pub room : Call
room = record {
  lifetimes = 0;
  parameters = contracts.room.Kinds.ps;
  result = contracts.room.Kinds.r;
  allows = contracts.room.Reads.Post;
  Answer = List ℕ;
  answer = λ κs x. x;
  Given = Unit {0};
  given = λ κs a. tt;
  Lent = Unit {0};
  lent = λ κs a. tt;
  left = λ κs s. tt;
}

-- judge(capture: &[u8]) -> Result<(), Fault>
abbrev pub judge : Call
judge = record {
  lifetimes = 1;
  parameters = contracts.judge.Kinds.ps;
  result = contracts.judge.Kinds.r;
  allows = contracts.judge.Reads.Post;
  Answer = Result (Unit {0}) Fault;
  answer = λ κs x. x;
  Given = List ℕ;
  given = λ κs a. a.0.now;
  Lent = Unit {0};
  lent = λ κs a. tt;
  left = λ κs s. tt;
}

-- record(capture: &[u8], out: &mut [u8]) -> Result<usize, CaptureError>
abbrev pub «record» : Call
«record» = record {
  lifetimes = 2;
  parameters = contracts.«record».Kinds.ps;
  result = contracts.«record».Kinds.r;
  allows = contracts.«record».Reads.Post;
  Answer = Result ℕ CaptureError;
  answer = λ κs x. x;
  Given = List ℕ;
  given = λ κs a. a.0.now;
  Lent = LentOut;
  lent = λ κs a. record { out = a.1.0.now };
  left = λ κs s. record { out = s.1.0.now };
}

-- answer(capture: &[u8], i: usize) -> Result<usize, CaptureError>
abbrev pub answer : Call
answer = record {
  lifetimes = 1;
  parameters = contracts.answer.Kinds.ps;
  result = contracts.answer.Kinds.r;
  allows = contracts.answer.Reads.Post;
  Answer = Result ℕ CaptureError;
  answer = λ κs x. x;
  Given = List ℕ × ℕ;
  given = λ κs a. (a.0.now, a.1.0);
  Lent = Unit {0};
  lent = λ κs a. tt;
  left = λ κs s. tt;
}
