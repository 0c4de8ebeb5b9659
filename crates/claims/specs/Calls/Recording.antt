-- Made by tools/calls --write from the sources: the public calls of crates/recording.
use Rattle.std.specs.Prelude.{ℕ, List, Result}
use Rattle.answers.specs.declared.Refusal.{Refusal}
use Rattle.frame.specs.declared.Located.{Located}
use Rattle.frame.specs.declared.Vocoder.{Vocoder}
use Rattle.recording.proofs as contracts
use Rattle.claims.specs.Call.{Call}
use Rattle.claims.specs.Calls.Lent.{LentOut}

-- read(vocoder: Vocoder, recording: &[u8]) -> Result<usize, Refusal>
abbrev pub read : Call
read = record {
  lifetimes = 1;
  parameters = contracts.read.Kinds.ps;
  result = contracts.read.Kinds.r;
  allows = contracts.read.Reads.Post;
  Answer = Result ℕ Refusal;
  answer = λ κs x. x;
  Given = Vocoder × List ℕ;
  given = λ κs a. (a.0, a.1.0.now);
  Lent = Unit {0};
  lent = λ κs a. tt;
  left = λ κs s. tt;
}

-- locate(vocoder: Vocoder, recording: &[u8], k: usize) -> Result<Located, Refusal>
abbrev pub locate : Call
locate = record {
  lifetimes = 1;
  parameters = contracts.locate.Kinds.ps;
  result = contracts.locate.Kinds.r;
  allows = contracts.locate.Reads.Post;
  Answer = Result Located Refusal;
  answer = λ κs x. x;
  Given = Vocoder × (List ℕ × ℕ);
  given = λ κs a. (a.0, (a.1.0.now, a.1.1.0));
  Lent = Unit {0};
  lent = λ κs a. tt;
  left = λ κs s. tt;
}

-- body(vocoder: Vocoder, recording: &[u8], k: usize) -> &[u8]
abbrev pub body : Call
body = record {
  lifetimes = 1;
  parameters = contracts.body.Kinds.ps;
  result = contracts.body.Kinds.r;
  allows = contracts.body.Reads.Post;
  Answer = List ℕ × (ℕ × ℕ);
  answer = λ κs x. (x.now, x.ref_ptr);
  Given = Vocoder × (List ℕ × ℕ);
  given = λ κs a. (a.0, (a.1.0.now, a.1.1.0));
  Lent = Unit {0};
  lent = λ κs a. tt;
  left = λ κs s. tt;
}

-- write(vocoder: Vocoder, entries: &[u8], out: &mut [u8]) -> Result<usize, Refusal>
abbrev pub write : Call
write = record {
  lifetimes = 2;
  parameters = contracts.write.Kinds.ps;
  result = contracts.write.Kinds.r;
  allows = contracts.write.Reads.Post;
  Answer = Result ℕ Refusal;
  answer = λ κs x. x;
  Given = Vocoder × List ℕ;
  given = λ κs a. (a.0, a.1.0.now);
  Lent = LentOut;
  lent = λ κs a. record { out = a.1.1.0.now };
  left = λ κs s. record { out = s.1.1.0.now };
}
