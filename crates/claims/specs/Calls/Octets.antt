-- Made by tools/calls --write from the sources: the public calls of crates/octets.
use Rattle.std.specs.Prelude.{ℕ, Bool, List}
use Rattle.octets.proofs as contracts
use Rattle.claims.specs.Call.{Call}
use Rattle.claims.specs.Calls.Lent.{LentDst}

-- copy(dst: &mut [u8], at: usize, src: &[u8])
abbrev pub copy : Call
copy = record {
  lifetimes = 2;
  parameters = contracts.copy.Kinds.ps;
  result = contracts.copy.Kinds.r;
  allows = contracts.copy.Reads.Post;
  Answer = Unit {0};
  answer = λ κs x. x;
  Given = ℕ × List ℕ;
  given = λ κs a. (a.1.0, a.1.1.0.now);
  Lent = LentDst;
  lent = λ κs a. record { dst = a.0.now };
  left = λ κs s. record { dst = s.0.now };
}

-- fill(dst: &mut [u8], at: usize, n: usize, x: u8)
abbrev pub fill : Call
fill = record {
  lifetimes = 1;
  parameters = contracts.fill.Kinds.ps;
  result = contracts.fill.Kinds.r;
  allows = contracts.fill.Reads.Post;
  Answer = Unit {0};
  answer = λ κs x. x;
  Given = ℕ × (ℕ × ℕ);
  given = λ κs a. (a.1.0, (a.1.1.0, a.1.1.1.0));
  Lent = LentDst;
  lent = λ κs a. record { dst = a.0.now };
  left = λ κs s. record { dst = s.0.now };
}

-- copy_shifted(dst: &mut [u8], at: usize, src: &[u8], by: u8)
abbrev pub copy_shifted : Call
copy_shifted = record {
  lifetimes = 2;
  parameters = contracts.copy_shifted.Kinds.ps;
  result = contracts.copy_shifted.Kinds.r;
  allows = contracts.copy_shifted.Reads.Post;
  Answer = Unit {0};
  answer = λ κs x. x;
  Given = ℕ × (List ℕ × ℕ);
  given = λ κs a. (a.1.0, (a.1.1.0.now, a.1.1.1.0));
  Lent = LentDst;
  lent = λ κs a. record { dst = a.0.now };
  left = λ κs s. record { dst = s.0.now };
}

-- same(a: &[u8], b: &[u8]) -> bool
abbrev pub same : Call
same = record {
  lifetimes = 2;
  parameters = contracts.same.Kinds.ps;
  result = contracts.same.Kinds.r;
  allows = contracts.same.Reads.Post;
  Answer = Bool;
  answer = λ κs x. x;
  Given = List ℕ × List ℕ;
  given = λ κs a. (a.0.now, a.1.0.now);
  Lent = Unit {0};
  lent = λ κs a. tt;
  left = λ κs s. tt;
}

-- zeros(s: &[u8]) -> bool
abbrev pub zeros : Call
zeros = record {
  lifetimes = 1;
  parameters = contracts.zeros.Kinds.ps;
  result = contracts.zeros.Kinds.r;
  allows = contracts.zeros.Reads.Post;
  Answer = Bool;
  answer = λ κs x. x;
  Given = List ℕ;
  given = λ κs a. a.0.now;
  Lent = Unit {0};
  lent = λ κs a. tt;
  left = λ κs s. tt;
}

-- any(s: &[bool]) -> bool
abbrev pub any : Call
any = record {
  lifetimes = 1;
  parameters = contracts.any.Kinds.ps;
  result = contracts.any.Kinds.r;
  allows = contracts.any.Reads.Post;
  Answer = Bool;
  answer = λ κs x. x;
  Given = List Bool;
  given = λ κs a. a.0.now;
  Lent = Unit {0};
  lent = λ κs a. tt;
  left = λ κs s. tt;
}

-- two(s: &[u8], at: usize) -> u16
abbrev pub two : Call
two = record {
  lifetimes = 1;
  parameters = contracts.two.Kinds.ps;
  result = contracts.two.Kinds.r;
  allows = contracts.two.Reads.Post;
  Answer = ℕ;
  answer = λ κs x. x;
  Given = List ℕ × ℕ;
  given = λ κs a. (a.0.now, a.1.0);
  Lent = Unit {0};
  lent = λ κs a. tt;
  left = λ κs s. tt;
}

-- four(s: &[u8], at: usize) -> u32
abbrev pub four : Call
four = record {
  lifetimes = 1;
  parameters = contracts.four.Kinds.ps;
  result = contracts.four.Kinds.r;
  allows = contracts.four.Reads.Post;
  Answer = ℕ;
  answer = λ κs x. x;
  Given = List ℕ × ℕ;
  given = λ κs a. (a.0.now, a.1.0);
  Lent = Unit {0};
  lent = λ κs a. tt;
  left = λ κs s. tt;
}

-- put_two(dst: &mut [u8], at: usize, x: u16)
abbrev pub put_two : Call
put_two = record {
  lifetimes = 1;
  parameters = contracts.put_two.Kinds.ps;
  result = contracts.put_two.Kinds.r;
  allows = contracts.put_two.Reads.Post;
  Answer = Unit {0};
  answer = λ κs x. x;
  Given = ℕ × ℕ;
  given = λ κs a. (a.1.0, a.1.1.0);
  Lent = LentDst;
  lent = λ κs a. record { dst = a.0.now };
  left = λ κs s. record { dst = s.0.now };
}

-- put_four(dst: &mut [u8], at: usize, x: u32)
abbrev pub put_four : Call
put_four = record {
  lifetimes = 1;
  parameters = contracts.put_four.Kinds.ps;
  result = contracts.put_four.Kinds.r;
  allows = contracts.put_four.Reads.Post;
  Answer = Unit {0};
  answer = λ κs x. x;
  Given = ℕ × ℕ;
  given = λ κs a. (a.1.0, a.1.1.0);
  Lent = LentDst;
  lent = λ κs a. record { dst = a.0.now };
  left = λ κs s. record { dst = s.0.now };
}
