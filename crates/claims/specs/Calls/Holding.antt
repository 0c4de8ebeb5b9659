-- Made by tools/calls --write from the sources: the public calls of crates/holding.
use Rattle.std.specs.Prelude.{ℕ, Bool, List, Result}
use Rattle.bundle.specs.Bundles.{as_bundle}
use Rattle.answers.specs.declared.Refusal.{Refusal}
use Rattle.bundle.specs.declared.Bundle.{Bundle}
use Rattle.frame.specs.declared.Vocoder.{Vocoder}
use Rattle.holding.specs.declared.Described.{Described}
use Rattle.holding.specs.declared.Holding.{Holding}
use Rattle.numbers.specs.declared.GroupNumbers.{GroupNumbers}
use Rattle.holding.proofs as contracts
use Rattle.claims.specs.Call.{Call}

-- Holding::parts(&self) -> Group<'_>
abbrev pub holding_parts : Call
holding_parts = record {
  lifetimes = 1;
  parameters = contracts.Holding.parts.Kinds.ps;
  result = contracts.Holding.parts.Kinds.r;
  allows = contracts.Holding.parts.Reads.Post;
  Answer = List Bool × Bundle;
  answer = λ κs x. (x.held.now, as_bundle x.cells);
  Given = Holding;
  given = λ κs a. a.0.now;
  Lent = Unit {0};
  lent = λ κs a. tt;
  left = λ κs s. tt;
}

-- packet_of(vocoder: Vocoder, cells: Cells<'a>, n: usize) -> Cells<'a>
abbrev pub packet_of : Call
packet_of = record {
  lifetimes = 1;
  parameters = contracts.packet_of.Kinds.ps;
  result = contracts.packet_of.Kinds.r;
  allows = contracts.packet_of.Reads.Post;
  Answer = Bundle;
  answer = λ κs x. as_bundle x;
  Given = Vocoder × (Bundle × ℕ);
  given = λ κs a. (a.0, (as_bundle a.1.0, a.1.1.0));
  Lent = Unit {0};
  lent = λ κs a. tt;
  left = λ κs s. tt;
}

-- begin(source: u32, numbers: GroupNumbers) -> Holding
abbrev pub begin : Call
begin = record {
  lifetimes = 0;
  parameters = contracts.begin.Kinds.ps;
  result = contracts.begin.Kinds.r;
  allows = contracts.begin.Reads.Post;
  Answer = Holding;
  answer = λ κs x. x;
  Given = ℕ × GroupNumbers;
  given = λ κs a. (a.0, a.1.0);
  Lent = Unit {0};
  lent = λ κs a. tt;
  left = λ κs s. tt;
}

-- numbers_of(group: Holding) -> GroupNumbers
abbrev pub numbers_of : Call
numbers_of = record {
  lifetimes = 0;
  parameters = contracts.numbers_of.Kinds.ps;
  result = contracts.numbers_of.Kinds.r;
  allows = contracts.numbers_of.Reads.Post;
  Answer = GroupNumbers;
  answer = λ κs x. x;
  Given = Holding;
  given = λ κs a. a.0;
  Lent = Unit {0};
  lent = λ κs a. tt;
  left = λ κs s. tt;
}

-- nothing() -> Holding
abbrev pub nothing : Call
nothing = record {
  lifetimes = 0;
  parameters = contracts.nothing.Kinds.ps;
  result = contracts.nothing.Kinds.r;
  allows = contracts.nothing.Reads.Post;
  Answer = Holding;
  answer = λ κs x. x;
  Given = Unit {0};
  given = λ κs a. tt;
  Lent = Unit {0};
  lent = λ κs a. tt;
  left = λ κs s. tt;
}

-- is_nothing_in(source: u32, numbers: GroupNumbers, group: Group<'_>) -> bool
abbrev pub is_nothing_in : Call
is_nothing_in = record {
  lifetimes = 1;
  parameters = contracts.is_nothing_in.Kinds.ps;
  result = contracts.is_nothing_in.Kinds.r;
  allows = contracts.is_nothing_in.Reads.Post;
  Answer = Bool;
  answer = λ κs x. x;
  Given = ℕ × (GroupNumbers × (List Bool × Bundle));
  given = λ κs a. (a.0, (a.1.0, (a.1.1.0.held.now, as_bundle a.1.1.0.cells)));
  Lent = Unit {0};
  lent = λ κs a. tt;
  left = λ κs s. tt;
}

-- is_nothing(h: Holding) -> bool
abbrev pub is_nothing : Call
is_nothing = record {
  lifetimes = 0;
  parameters = contracts.is_nothing.Kinds.ps;
  result = contracts.is_nothing.Kinds.r;
  allows = contracts.is_nothing.Reads.Post;
  Answer = Bool;
  answer = λ κs x. x;
  Given = Holding;
  given = λ κs a. a.0;
  Lent = Unit {0};
  lent = λ κs a. tt;
  left = λ κs s. tt;
}

-- with_packet(h: Holding, n: usize, p: Bundle) -> Holding
abbrev pub with_packet : Call
with_packet = record {
  lifetimes = 0;
  parameters = contracts.with_packet.Kinds.ps;
  result = contracts.with_packet.Kinds.r;
  allows = contracts.with_packet.Reads.Post;
  Answer = Holding;
  answer = λ κs x. x;
  Given = Holding × (ℕ × Bundle);
  given = λ κs a. (a.0, (a.1.0, a.1.1.0));
  Lent = Unit {0};
  lent = λ κs a. tt;
  left = λ κs s. tt;
}

-- is_held(h: Holding, n: usize) -> bool
abbrev pub is_held : Call
is_held = record {
  lifetimes = 0;
  parameters = contracts.is_held.Kinds.ps;
  result = contracts.is_held.Kinds.r;
  allows = contracts.is_held.Reads.Post;
  Answer = Bool;
  answer = λ κs x. x;
  Given = Holding × ℕ;
  given = λ κs a. (a.0, a.1.0);
  Lent = Unit {0};
  lent = λ κs a. tt;
  left = λ κs s. tt;
}

-- same_packet_in(cells: Cells<'_>, n: usize, p: Bundle) -> bool
abbrev pub same_packet_in : Call
same_packet_in = record {
  lifetimes = 1;
  parameters = contracts.same_packet_in.Kinds.ps;
  result = contracts.same_packet_in.Kinds.r;
  allows = contracts.same_packet_in.Reads.Post;
  Answer = Bool;
  answer = λ κs x. x;
  Given = Bundle × (ℕ × Bundle);
  given = λ κs a. (as_bundle a.0, (a.1.0, a.1.1.0));
  Lent = Unit {0};
  lent = λ κs a. tt;
  left = λ κs s. tt;
}

-- same_packet(h: Holding, n: usize, p: Bundle) -> bool
abbrev pub same_packet : Call
same_packet = record {
  lifetimes = 0;
  parameters = contracts.same_packet.Kinds.ps;
  result = contracts.same_packet.Kinds.r;
  allows = contracts.same_packet.Reads.Post;
  Answer = Bool;
  answer = λ κs x. x;
  Given = Holding × (ℕ × Bundle);
  given = λ κs a. (a.0, (a.1.0, a.1.1.0));
  Lent = Unit {0};
  lent = λ κs a. tt;
  left = λ κs s. tt;
}

-- holds_packet_in(numbers: GroupNumbers, group: Group<'_>) -> bool
abbrev pub holds_packet_in : Call
holds_packet_in = record {
  lifetimes = 1;
  parameters = contracts.holds_packet_in.Kinds.ps;
  result = contracts.holds_packet_in.Kinds.r;
  allows = contracts.holds_packet_in.Reads.Post;
  Answer = Bool;
  answer = λ κs x. x;
  Given = GroupNumbers × (List Bool × Bundle);
  given = λ κs a. (a.0, (a.1.0.held.now, as_bundle a.1.0.cells));
  Lent = Unit {0};
  lent = λ κs a. tt;
  left = λ κs s. tt;
}

-- is_sound(h: Holding) -> bool
abbrev pub is_sound : Call
is_sound = record {
  lifetimes = 0;
  parameters = contracts.is_sound.Kinds.ps;
  result = contracts.is_sound.Kinds.r;
  allows = contracts.is_sound.Reads.Post;
  Answer = Bool;
  answer = λ κs x. x;
  Given = Holding;
  given = λ κs a. a.0;
  Lent = Unit {0};
  lent = λ κs a. tt;
  left = λ κs s. tt;
}

-- holds_packet(h: Holding) -> bool
abbrev pub holds_packet : Call
holds_packet = record {
  lifetimes = 0;
  parameters = contracts.holds_packet.Kinds.ps;
  result = contracts.holds_packet.Kinds.r;
  allows = contracts.holds_packet.Reads.Post;
  Answer = Bool;
  answer = λ κs x. x;
  Given = Holding;
  given = λ κs a. a.0;
  Lent = Unit {0};
  lent = λ κs a. tt;
  left = λ κs s. tt;
}

-- read(h: Holding) -> Result<Described, Refusal>
abbrev pub read : Call
read = record {
  lifetimes = 0;
  parameters = contracts.read.Kinds.ps;
  result = contracts.read.Kinds.r;
  allows = contracts.read.Reads.Post;
  Answer = Result Described Refusal;
  answer = λ κs x. x;
  Given = Holding;
  given = λ κs a. a.0;
  Lent = Unit {0};
  lent = λ κs a. tt;
  left = λ κs s. tt;
}

-- lost_between(before: Holding, after: Holding) -> Result<usize, Refusal>
abbrev pub lost_between : Call
lost_between = record {
  lifetimes = 0;
  parameters = contracts.lost_between.Kinds.ps;
  result = contracts.lost_between.Kinds.r;
  allows = contracts.lost_between.Reads.Post;
  Answer = Result ℕ Refusal;
  answer = λ κs x. x;
  Given = Holding × Holding;
  given = λ κs a. (a.0, a.1.0);
  Lent = Unit {0};
  lent = λ κs a. tt;
  left = λ κs s. tt;
}
