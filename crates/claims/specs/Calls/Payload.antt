-- Made by tools/calls --write from the sources: the public calls of crates/payload.
use Rattle.std.specs.Prelude.{ℕ, List, Result}
use Rattle.answers.specs.declared.Refusal.{Refusal}
use Rattle.bundle.specs.declared.Bundle.{Bundle}
use Rattle.form.specs.declared.Form.{Form}
use Rattle.frame.specs.declared.Located.{Located}
use Rattle.payload.specs.declared.Contents.{Contents}
use Rattle.payload.proofs as contracts
use Rattle.claims.specs.Call.{Call}
use Rattle.claims.specs.Calls.Lent.{LentMarksRoom}

-- read(form: Form, payload: &[u8]) -> Result<Contents, Refusal>
abbrev pub read : Call
read = record {
  lifetimes = 1;
  parameters = contracts.read.Kinds.ps;
  result = contracts.read.Kinds.r;
  allows = contracts.read.Reads.Post;
  Answer = Result Contents Refusal;
  answer = λ κs x. x;
  Given = Form × List ℕ;
  given = λ κs a. (a.0, a.1.0.now);
  Lent = Unit {0};
  lent = λ κs a. tt;
  left = λ κs s. tt;
}

-- read_agreed(payload: &[u8]) -> Result<Contents, Refusal>
abbrev pub read_agreed : Call
read_agreed = record {
  lifetimes = 1;
  parameters = contracts.read_agreed.Kinds.ps;
  result = contracts.read_agreed.Kinds.r;
  allows = contracts.read_agreed.Reads.Post;
  Answer = Result Contents Refusal;
  answer = λ κs x. x;
  Given = List ℕ;
  given = λ κs a. a.0.now;
  Lent = Unit {0};
  lent = λ κs a. tt;
  left = λ κs s. tt;
}

-- locate(form: Form, payload: &[u8], k: usize) -> Result<Located, Refusal>
abbrev pub locate : Call
locate = record {
  lifetimes = 1;
  parameters = contracts.locate.Kinds.ps;
  result = contracts.locate.Kinds.r;
  allows = contracts.locate.Reads.Post;
  Answer = Result Located Refusal;
  answer = λ κs x. x;
  Given = Form × (List ℕ × ℕ);
  given = λ κs a. (a.0, (a.1.0.now, a.1.1.0));
  Lent = Unit {0};
  lent = λ κs a. tt;
  left = λ κs s. tt;
}

-- body(form: Form, payload: &[u8], k: usize) -> &[u8]
abbrev pub body : Call
body = record {
  lifetimes = 1;
  parameters = contracts.body.Kinds.ps;
  result = contracts.body.Kinds.r;
  allows = contracts.body.Reads.Post;
  Answer = List ℕ × (ℕ × ℕ);
  answer = λ κs x. (x.now, x.ref_ptr);
  Given = Form × (List ℕ × ℕ);
  given = λ κs a. (a.0, (a.1.0.now, a.1.1.0));
  Lent = Unit {0};
  lent = λ κs a. tt;
  left = λ κs s. tt;
}

-- lay_frames(form: Form, payload: &[u8], b: u8, marks: &mut [u8], room: &mut [u8])
abbrev pub lay_frames : Call
lay_frames = record {
  lifetimes = 3;
  parameters = contracts.lay_frames.Kinds.ps;
  result = contracts.lay_frames.Kinds.r;
  allows = contracts.lay_frames.Reads.Post;
  Answer = Unit {0};
  answer = λ κs x. x;
  Given = Form × (List ℕ × ℕ);
  given = λ κs a. (a.0, (a.1.0.now, a.1.1.0));
  Lent = LentMarksRoom;
  lent = λ κs a. record { marks = a.1.1.1.0.now; room = a.1.1.1.1.0.now };
  left = λ κs s. record { marks = s.1.1.1.0.now; room = s.1.1.1.1.0.now };
}

-- lay_out(form: Form, payload: &[u8]) -> Bundle
abbrev pub lay_out : Call
lay_out = record {
  lifetimes = 1;
  parameters = contracts.lay_out.Kinds.ps;
  result = contracts.lay_out.Kinds.r;
  allows = contracts.lay_out.Reads.Post;
  Answer = Bundle;
  answer = λ κs x. x;
  Given = Form × List ℕ;
  given = λ κs a. (a.0, a.1.0.now);
  Lent = Unit {0};
  lent = λ κs a. tt;
  left = λ κs s. tt;
}
