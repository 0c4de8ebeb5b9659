-- Made by tools/calls --write from the sources: the public calls of crates/frame.
use Rattle.std.specs.Prelude.{ℕ, Bool, List, Option, Result}
use Rattle.answers.specs.declared.Refusal.{Refusal}
use Rattle.frame.specs.declared.Located.{Located}
use Rattle.frame.specs.declared.Row.{Row}
use Rattle.frame.specs.declared.Vocoder.{Vocoder}
use Rattle.frame.proofs as contracts
use Rattle.claims.specs.Call.{Call}

-- row_of(vocoder: Vocoder, kind: u8) -> Option<Row>
abbrev pub row_of : Call
row_of = record {
  lifetimes = 0;
  parameters = contracts.row_of.Kinds.ps;
  result = contracts.row_of.Kinds.r;
  allows = contracts.row_of.Reads.Post;
  Answer = Option Row;
  answer = λ κs x. x;
  Given = Vocoder × ℕ;
  given = λ κs a. (a.0, a.1.0);
  Lent = Unit {0};
  lent = λ κs a. tt;
  left = λ κs s. tt;
}

-- cell_of(vocoder: Vocoder) -> usize
abbrev pub cell_of : Call
cell_of = record {
  lifetimes = 0;
  parameters = contracts.cell_of.Kinds.ps;
  result = contracts.cell_of.Kinds.r;
  allows = contracts.cell_of.Reads.Post;
  Answer = ℕ;
  answer = λ κs x. x;
  Given = Vocoder;
  given = λ κs a. a.0;
  Lent = Unit {0};
  lent = λ κs a. tt;
  left = λ κs s. tt;
}

-- packets_of(vocoder: Vocoder) -> usize
abbrev pub packets_of : Call
packets_of = record {
  lifetimes = 0;
  parameters = contracts.packets_of.Kinds.ps;
  result = contracts.packets_of.Kinds.r;
  allows = contracts.packets_of.Reads.Post;
  Answer = ℕ;
  answer = λ κs x. x;
  Given = Vocoder;
  given = λ κs a. a.0;
  Lent = Unit {0};
  lent = λ κs a. tt;
  left = λ κs s. tt;
}

-- body_size(vocoder: Vocoder, kind: u8) -> usize
abbrev pub body_size : Call
body_size = record {
  lifetimes = 0;
  parameters = contracts.body_size.Kinds.ps;
  result = contracts.body_size.Kinds.r;
  allows = contracts.body_size.Reads.Post;
  Answer = ℕ;
  answer = λ κs x. x;
  Given = Vocoder × ℕ;
  given = λ κs a. (a.0, a.1.0);
  Lent = Unit {0};
  lent = λ κs a. tt;
  left = λ κs s. tt;
}

-- row_of_size(vocoder: Vocoder, size: usize) -> Option<Row>
abbrev pub row_of_size : Call
row_of_size = record {
  lifetimes = 0;
  parameters = contracts.row_of_size.Kinds.ps;
  result = contracts.row_of_size.Kinds.r;
  allows = contracts.row_of_size.Reads.Post;
  Answer = Option Row;
  answer = λ κs x. x;
  Given = Vocoder × ℕ;
  given = λ κs a. (a.0, a.1.0);
  Lent = Unit {0};
  lent = λ κs a. tt;
  left = λ κs s. tt;
}

-- low_bits(octet: u8, bits: u8) -> u8
abbrev pub low_bits : Call
low_bits = record {
  lifetimes = 0;
  parameters = contracts.low_bits.Kinds.ps;
  result = contracts.low_bits.Kinds.r;
  allows = contracts.low_bits.Reads.Post;
  Answer = ℕ;
  answer = λ κs x. x;
  Given = ℕ × ℕ;
  given = λ κs a. (a.0, a.1.0);
  Lent = Unit {0};
  lent = λ κs a. tt;
  left = λ κs s. tt;
}

-- is_sendable(vocoder: Vocoder, kind: u8, body: &[u8]) -> bool
abbrev pub is_sendable : Call
is_sendable = record {
  lifetimes = 1;
  parameters = contracts.is_sendable.Kinds.ps;
  result = contracts.is_sendable.Kinds.r;
  allows = contracts.is_sendable.Reads.Post;
  Answer = Bool;
  answer = λ κs x. x;
  Given = Vocoder × (ℕ × List ℕ);
  given = λ κs a. (a.0, (a.1.0, a.1.1.0.now));
  Lent = Unit {0};
  lent = λ κs a. tt;
  left = λ κs s. tt;
}

-- part(octets: &[u8], place: Result<Located, Refusal>) -> &[u8]
abbrev pub part : Call
part = record {
  lifetimes = 1;
  parameters = contracts.part.Kinds.ps;
  result = contracts.part.Kinds.r;
  allows = contracts.part.Reads.Post;
  Answer = List ℕ × (ℕ × ℕ);
  answer = λ κs x. (x.now, x.ref_ptr);
  Given = List ℕ × Result Located Refusal;
  given = λ κs a. (a.0.now, a.1.0);
  Lent = Unit {0};
  lent = λ κs a. tt;
  left = λ κs s. tt;
}
