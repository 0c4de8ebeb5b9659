-- Made by tools/calls --write from the sources: the public calls of crates/session.
use Rattle.std.specs.Prelude.{ℕ, Bool, List, Result}
use Rattle.bundle.specs.Bundles.{as_bundle}
use Rattle.answers.specs.declared.Refusal.{Refusal}
use Rattle.bundle.specs.declared.Bundle.{Bundle}
use Rattle.form.specs.declared.Form.{Form}
use Rattle.holding.specs.declared.Holding.{Holding}
use Rattle.numbers.specs.declared.GroupNumbers.{GroupNumbers}
use Rattle.session.specs.declared.Decision.{Decision}
use Rattle.session.specs.declared.Session.{Session}
use Rattle.session.specs.declared.Standing.{Standing}
use Rattle.session.proofs as contracts
use Rattle.claims.specs.Call.{Call}
use Rattle.claims.specs.Calls.Lent.{LentWholeSession, LentWholeSessionOut, LentWholeStandingMarksRoom}

-- never_opened() -> Session
abbrev pub never_opened : Call
never_opened = record {
  lifetimes = 0;
  parameters = contracts.never_opened.Kinds.ps;
  result = contracts.never_opened.Kinds.r;
  allows = contracts.never_opened.Reads.Post;
  Answer = Session;
  answer = λ κs x. x;
  Given = Unit {0};
  given = λ κs a. tt;
  Lent = Unit {0};
  lent = λ κs a. tt;
  left = λ κs s. tt;
}

-- open(session: &mut Session, source: u32, form: Form) -> Result<(), Refusal>
abbrev pub «open» : Call
«open» = record {
  lifetimes = 1;
  parameters = contracts.«open».Kinds.ps;
  result = contracts.«open».Kinds.r;
  allows = contracts.«open».Reads.Post;
  Answer = Result (Unit {0}) Refusal;
  answer = λ κs x. x;
  Given = ℕ × Form;
  given = λ κs a. (a.1.0, a.1.1.0);
  Lent = LentWholeSession;
  lent = λ κs a. record { session = a.0.now };
  left = λ κs s. record { session = s.0.now };
}

-- open_agreed(session: &mut Session, source: u32) -> Result<(), Refusal>
abbrev pub open_agreed : Call
open_agreed = record {
  lifetimes = 1;
  parameters = contracts.open_agreed.Kinds.ps;
  result = contracts.open_agreed.Kinds.r;
  allows = contracts.open_agreed.Reads.Post;
  Answer = Result (Unit {0}) Refusal;
  answer = λ κs x. x;
  Given = ℕ;
  given = λ κs a. a.1.0;
  Lent = LentWholeSession;
  lent = λ κs a. record { session = a.0.now };
  left = λ κs s. record { session = s.0.now };
}

-- is_open_in(standing: Standing, cells: Cells<'_>) -> bool
abbrev pub is_open_in : Call
is_open_in = record {
  lifetimes = 1;
  parameters = contracts.is_open_in.Kinds.ps;
  result = contracts.is_open_in.Kinds.r;
  allows = contracts.is_open_in.Reads.Post;
  Answer = Bool;
  answer = λ κs x. x;
  Given = Standing × Bundle;
  given = λ κs a. (a.0, as_bundle a.1.0);
  Lent = Unit {0};
  lent = λ κs a. tt;
  left = λ κs s. tt;
}

-- is_open(session: &Session) -> bool
abbrev pub is_open : Call
is_open = record {
  lifetimes = 1;
  parameters = contracts.is_open.Kinds.ps;
  result = contracts.is_open.Kinds.r;
  allows = contracts.is_open.Reads.Post;
  Answer = Bool;
  answer = λ κs x. x;
  Given = Session;
  given = λ κs a. a.0.now;
  Lent = Unit {0};
  lent = λ κs a. tt;
  left = λ κs s. tt;
}

-- decide(standing: Standing, source: u32, sequence: u16, timestamp: u32, payload: &[u8]) -> Result<Decision, Refusal>
abbrev pub decide : Call
decide = record {
  lifetimes = 1;
  parameters = contracts.decide.Kinds.ps;
  result = contracts.decide.Kinds.r;
  allows = contracts.decide.Reads.Post;
  Answer = Result Decision Refusal;
  answer = λ κs x. x;
  Given = Standing × (ℕ × (ℕ × (ℕ × List ℕ)));
  given = λ κs a. (a.0, (a.1.0, (a.1.1.0, (a.1.1.1.0, a.1.1.1.1.0.now))));
  Lent = Unit {0};
  lent = λ κs a. tt;
  left = λ κs s. tt;
}

-- begin_group(standing: Standing, numbers: GroupNumbers, n: u8) -> Standing
abbrev pub begin_group : Call
begin_group = record {
  lifetimes = 0;
  parameters = contracts.begin_group.Kinds.ps;
  result = contracts.begin_group.Kinds.r;
  allows = contracts.begin_group.Reads.Post;
  Answer = Standing;
  answer = λ κs x. x;
  Given = Standing × (GroupNumbers × ℕ);
  given = λ κs a. (a.0, (a.1.0, a.1.1.0));
  Lent = Unit {0};
  lent = λ κs a. tt;
  left = λ κs s. tt;
}

-- hold_packet(standing: Standing, n: u8) -> Standing
abbrev pub hold_packet : Call
hold_packet = record {
  lifetimes = 0;
  parameters = contracts.hold_packet.Kinds.ps;
  result = contracts.hold_packet.Kinds.r;
  allows = contracts.hold_packet.Reads.Post;
  Answer = Standing;
  answer = λ κs x. x;
  Given = Standing × ℕ;
  given = λ κs a. (a.0, a.1.0);
  Lent = Unit {0};
  lent = λ κs a. tt;
  left = λ κs s. tt;
}

-- take(standing: &mut Standing, decision: Result<Decision, Refusal>, payload: &[u8], marks: &mut [u8], room: &mut [u8]) -> Result<usize,
-- Refusal>
abbrev pub take : Call
take = record {
  lifetimes = 4;
  parameters = contracts.take.Kinds.ps;
  result = contracts.take.Kinds.r;
  allows = contracts.take.Reads.Post;
  Answer = Result ℕ Refusal;
  answer = λ κs x. x;
  Given = Result Decision Refusal × List ℕ;
  given = λ κs a. (a.1.0, a.1.1.0.now);
  Lent = LentWholeStandingMarksRoom;
  lent = λ κs a. record { standing = a.0.now; marks = a.1.1.1.0.now; room = a.1.1.1.1.0.now };
  left = λ κs s. record { standing = s.0.now; marks = s.1.1.1.0.now; room = s.1.1.1.1.0.now };
}

-- end_group(standing: Standing) -> Standing
abbrev pub end_group : Call
end_group = record {
  lifetimes = 0;
  parameters = contracts.end_group.Kinds.ps;
  result = contracts.end_group.Kinds.r;
  allows = contracts.end_group.Reads.Post;
  Answer = Standing;
  answer = λ κs x. x;
  Given = Standing;
  given = λ κs a. a.0;
  Lent = Unit {0};
  lent = λ κs a. tt;
  left = λ κs s. tt;
}

-- fresh(source: u32, form: Form) -> Standing
abbrev pub fresh : Call
fresh = record {
  lifetimes = 0;
  parameters = contracts.fresh.Kinds.ps;
  result = contracts.fresh.Kinds.r;
  allows = contracts.fresh.Reads.Post;
  Answer = Standing;
  answer = λ κs x. x;
  Given = ℕ × Form;
  given = λ κs a. (a.0, a.1.0);
  Lent = Unit {0};
  lent = λ κs a. tt;
  left = λ κs s. tt;
}

-- offer(session: &mut Session, source: u32, sequence: u16, timestamp: u32, payload: &[u8]) -> Result<usize, Refusal>
abbrev pub offer : Call
offer = record {
  lifetimes = 2;
  parameters = contracts.offer.Kinds.ps;
  result = contracts.offer.Kinds.r;
  allows = contracts.offer.Reads.Post;
  Answer = Result ℕ Refusal;
  answer = λ κs x. x;
  Given = ℕ × (ℕ × (ℕ × List ℕ));
  given = λ κs a. (a.1.0, (a.1.1.0, (a.1.1.1.0, a.1.1.1.1.0.now)));
  Lent = LentWholeSession;
  lent = λ κs a. record { session = a.0.now };
  left = λ κs s. record { session = s.0.now };
}

-- pour(session: &mut Session, out: &mut [u8]) -> Result<usize, Refusal>
abbrev pub pour : Call
pour = record {
  lifetimes = 2;
  parameters = contracts.pour.Kinds.ps;
  result = contracts.pour.Kinds.r;
  allows = contracts.pour.Reads.Post;
  Answer = Result ℕ Refusal;
  answer = λ κs x. x;
  Given = Unit {0};
  given = λ κs a. tt;
  Lent = LentWholeSessionOut;
  lent = λ κs a. record { session = a.0.now; out = a.1.0.now };
  left = λ κs s. record { session = s.0.now; out = s.1.0.now };
}

-- copy_out(session: &Session) -> Result<Holding, Refusal>
abbrev pub copy_out : Call
copy_out = record {
  lifetimes = 1;
  parameters = contracts.copy_out.Kinds.ps;
  result = contracts.copy_out.Kinds.r;
  allows = contracts.copy_out.Reads.Post;
  Answer = Result Holding Refusal;
  answer = λ κs x. x;
  Given = Session;
  given = λ κs a. a.0.now;
  Lent = Unit {0};
  lent = λ κs a. tt;
  left = λ κs s. tt;
}

-- drop_group(session: &mut Session) -> Result<(), Refusal>
abbrev pub drop_group : Call
drop_group = record {
  lifetimes = 1;
  parameters = contracts.drop_group.Kinds.ps;
  result = contracts.drop_group.Kinds.r;
  allows = contracts.drop_group.Reads.Post;
  Answer = Result (Unit {0}) Refusal;
  answer = λ κs x. x;
  Given = Unit {0};
  given = λ κs a. tt;
  Lent = LentWholeSession;
  lent = λ κs a. record { session = a.0.now };
  left = λ κs s. record { session = s.0.now };
}

-- end(session: &mut Session)
abbrev pub end : Call
end = record {
  lifetimes = 1;
  parameters = contracts.end.Kinds.ps;
  result = contracts.end.Kinds.r;
  allows = contracts.end.Reads.Post;
  Answer = Unit {0};
  answer = λ κs x. x;
  Given = Unit {0};
  given = λ κs a. tt;
  Lent = LentWholeSession;
  lent = λ κs a. record { session = a.0.now };
  left = λ κs s. record { session = s.0.now };
}
