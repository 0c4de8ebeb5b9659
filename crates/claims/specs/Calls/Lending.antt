-- Made by tools/calls --write from the sources: the public calls of crates/lending.
use Rattle.std.specs.Prelude.{ℕ, List, Result}
use Rattle.answers.specs.declared.Refusal.{Refusal}
use Rattle.form.specs.declared.Form.{Form}
use Rattle.holding.specs.declared.Described.{Described}
use Rattle.lending.proofs as contracts
use Rattle.claims.specs.Call.{Call}
use Rattle.claims.specs.Calls.Lent.{LentOut, LentSession, LentSessionOut}

-- open(session: &mut [u8], source: u32, form: Form) -> Result<(), Refusal>
abbrev pub «open» : Call
«open» = record {
  lifetimes = 1;
  parameters = contracts.«open».Kinds.ps;
  result = contracts.«open».Kinds.r;
  allows = contracts.«open».Reads.Post;
  Answer = Result (Unit {0}) Refusal;
  answer = λ κs x. x;
  Given = ℕ × Form;
  given = λ κs a. (a.1.0, a.1.1.0);
  Lent = LentSession;
  lent = λ κs a. record { session = a.0.now };
  left = λ κs s. record { session = s.0.now };
}

-- offer(session: &mut [u8], source: u32, sequence: u16, timestamp: u32, payload: &[u8]) -> Result<usize, Refusal>
abbrev pub offer : Call
offer = record {
  lifetimes = 2;
  parameters = contracts.offer.Kinds.ps;
  result = contracts.offer.Kinds.r;
  allows = contracts.offer.Reads.Post;
  Answer = Result ℕ Refusal;
  answer = λ κs x. x;
  Given = ℕ × (ℕ × (ℕ × List ℕ));
  given = λ κs a. (a.1.0, (a.1.1.0, (a.1.1.1.0, a.1.1.1.1.0.now)));
  Lent = LentSession;
  lent = λ κs a. record { session = a.0.now };
  left = λ κs s. record { session = s.0.now };
}

-- pour(session: &mut [u8], out: &mut [u8]) -> Result<usize, Refusal>
abbrev pub pour : Call
pour = record {
  lifetimes = 2;
  parameters = contracts.pour.Kinds.ps;
  result = contracts.pour.Kinds.r;
  allows = contracts.pour.Reads.Post;
  Answer = Result ℕ Refusal;
  answer = λ κs x. x;
  Given = Unit {0};
  given = λ κs a. tt;
  Lent = LentSessionOut;
  lent = λ κs a. record { session = a.0.now; out = a.1.0.now };
  left = λ κs s. record { session = s.0.now; out = s.1.0.now };
}

-- copy_out(session: &[u8], out: &mut [u8]) -> Result<(), Refusal>
abbrev pub copy_out : Call
copy_out = record {
  lifetimes = 2;
  parameters = contracts.copy_out.Kinds.ps;
  result = contracts.copy_out.Kinds.r;
  allows = contracts.copy_out.Reads.Post;
  Answer = Result (Unit {0}) Refusal;
  answer = λ κs x. x;
  Given = List ℕ;
  given = λ κs a. a.0.now;
  Lent = LentOut;
  lent = λ κs a. record { out = a.1.0.now };
  left = λ κs s. record { out = s.1.0.now };
}

-- drop_group(session: &mut [u8]) -> Result<(), Refusal>
abbrev pub drop_group : Call
drop_group = record {
  lifetimes = 1;
  parameters = contracts.drop_group.Kinds.ps;
  result = contracts.drop_group.Kinds.r;
  allows = contracts.drop_group.Reads.Post;
  Answer = Result (Unit {0}) Refusal;
  answer = λ κs x. x;
  Given = Unit {0};
  given = λ κs a. tt;
  Lent = LentSession;
  lent = λ κs a. record { session = a.0.now };
  left = λ κs s. record { session = s.0.now };
}

-- end(session: &mut [u8]) -> Result<(), Refusal>
abbrev pub end : Call
end = record {
  lifetimes = 1;
  parameters = contracts.end.Kinds.ps;
  result = contracts.end.Kinds.r;
  allows = contracts.end.Reads.Post;
  Answer = Result (Unit {0}) Refusal;
  answer = λ κs x. x;
  Given = Unit {0};
  given = λ κs a. tt;
  Lent = LentSession;
  lent = λ κs a. record { session = a.0.now };
  left = λ κs s. record { session = s.0.now };
}

-- join(a: &[u8], b: &[u8], out: &mut [u8]) -> Result<(), Refusal>
abbrev pub join : Call
join = record {
  lifetimes = 3;
  parameters = contracts.join.Kinds.ps;
  result = contracts.join.Kinds.r;
  allows = contracts.join.Reads.Post;
  Answer = Result (Unit {0}) Refusal;
  answer = λ κs x. x;
  Given = List ℕ × List ℕ;
  given = λ κs a. (a.0.now, a.1.0.now);
  Lent = LentOut;
  lent = λ κs a. record { out = a.1.1.0.now };
  left = λ κs s. record { out = s.1.1.0.now };
}

-- pour_holding(holding: &[u8], out: &mut [u8]) -> Result<usize, Refusal>
abbrev pub pour_holding : Call
pour_holding = record {
  lifetimes = 2;
  parameters = contracts.pour_holding.Kinds.ps;
  result = contracts.pour_holding.Kinds.r;
  allows = contracts.pour_holding.Reads.Post;
  Answer = Result ℕ Refusal;
  answer = λ κs x. x;
  Given = List ℕ;
  given = λ κs a. a.0.now;
  Lent = LentOut;
  lent = λ κs a. record { out = a.1.0.now };
  left = λ κs s. record { out = s.1.0.now };
}

-- read_holding(holding: &[u8]) -> Result<Described, Refusal>
abbrev pub read_holding : Call
read_holding = record {
  lifetimes = 1;
  parameters = contracts.read_holding.Kinds.ps;
  result = contracts.read_holding.Kinds.r;
  allows = contracts.read_holding.Reads.Post;
  Answer = Result Described Refusal;
  answer = λ κs x. x;
  Given = List ℕ;
  given = λ κs a. a.0.now;
  Lent = Unit {0};
  lent = λ κs a. tt;
  left = λ κs s. tt;
}

-- lost_between(before: &[u8], after: &[u8]) -> Result<usize, Refusal>
abbrev pub lost_between : Call
lost_between = record {
  lifetimes = 2;
  parameters = contracts.lost_between.Kinds.ps;
  result = contracts.lost_between.Kinds.r;
  allows = contracts.lost_between.Reads.Post;
  Answer = Result ℕ Refusal;
  answer = λ κs x. x;
  Given = List ℕ × List ℕ;
  given = λ κs a. (a.0.now, a.1.0.now);
  Lent = Unit {0};
  lent = λ κs a. tt;
  left = λ κs s. tt;
}
