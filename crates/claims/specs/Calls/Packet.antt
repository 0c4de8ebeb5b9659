-- Made by tools/calls --write from the sources: the public calls of crates/packet.
use Rattle.std.specs.Prelude.{ℕ, List, Result}
use Rattle.answers.specs.declared.Refusal.{Refusal}
use Rattle.form.specs.declared.Form.{Form}
use Rattle.packet.proofs as contracts
use Rattle.claims.specs.Call.{Call}
use Rattle.claims.specs.Calls.Lent.{LentOut}

-- write(form: Form, l: u8, n: u8, b: u8, d: u8, entries: &[u8], out: &mut [u8]) -> Result<usize, Refusal>
abbrev pub write : Call
write = record {
  lifetimes = 2;
  parameters = contracts.write.Kinds.ps;
  result = contracts.write.Kinds.r;
  allows = contracts.write.Reads.Post;
  Answer = Result ℕ Refusal;
  answer = λ κs x. x;
  Given = Form × (ℕ × (ℕ × (ℕ × (ℕ × List ℕ))));
  given = λ κs a. (a.0, (a.1.0, (a.1.1.0, (a.1.1.1.0, (a.1.1.1.1.0, a.1.1.1.1.1.0.now)))));
  Lent = LentOut;
  lent = λ κs a. record { out = a.1.1.1.1.1.1.0.now };
  left = λ κs s. record { out = s.1.1.1.1.1.1.0.now };
}

-- write_agreed(l: u8, n: u8, b: u8, d: u8, entries: &[u8], out: &mut [u8]) -> Result<usize, Refusal>
abbrev pub write_agreed : Call
write_agreed = record {
  lifetimes = 2;
  parameters = contracts.write_agreed.Kinds.ps;
  result = contracts.write_agreed.Kinds.r;
  allows = contracts.write_agreed.Reads.Post;
  Answer = Result ℕ Refusal;
  answer = λ κs x. x;
  Given = ℕ × (ℕ × (ℕ × (ℕ × List ℕ)));
  given = λ κs a. (a.0, (a.1.0, (a.1.1.0, (a.1.1.1.0, a.1.1.1.1.0.now))));
  Lent = LentOut;
  lent = λ κs a. record { out = a.1.1.1.1.1.0.now };
  left = λ κs s. record { out = s.1.1.1.1.1.0.now };
}

-- write_header_free(form: Form, entries: &[u8], out: &mut [u8]) -> Result<usize, Refusal>
abbrev pub write_header_free : Call
write_header_free = record {
  lifetimes = 2;
  parameters = contracts.write_header_free.Kinds.ps;
  result = contracts.write_header_free.Kinds.r;
  allows = contracts.write_header_free.Reads.Post;
  Answer = Result ℕ Refusal;
  answer = λ κs x. x;
  Given = Form × List ℕ;
  given = λ κs a. (a.0, a.1.0.now);
  Lent = LentOut;
  lent = λ κs a. record { out = a.1.1.0.now };
  left = λ κs s. record { out = s.1.1.0.now };
}
