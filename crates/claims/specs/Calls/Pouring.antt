-- Made by tools/calls --write from the sources: the public calls of crates/pouring.
use Rattle.std.specs.Prelude.{ℕ, List, Result}
use Rattle.bundle.specs.Bundles.{as_bundle}
use Rattle.answers.specs.declared.Refusal.{Refusal}
use Rattle.bundle.specs.declared.Bundle.{Bundle}
use Rattle.frame.specs.declared.Vocoder.{Vocoder}
use Rattle.holding.specs.declared.Holding.{Holding}
use Rattle.numbers.specs.declared.GroupNumbers.{GroupNumbers}
use Rattle.pouring.proofs as contracts
use Rattle.claims.specs.Call.{Call}
use Rattle.claims.specs.Calls.Lent.{LentOut}

-- pour_size(vocoder: Vocoder, marks: &[u8], m: usize, b: usize) -> usize
abbrev pub pour_size : Call
pour_size = record {
  lifetimes = 1;
  parameters = contracts.pour_size.Kinds.ps;
  result = contracts.pour_size.Kinds.r;
  allows = contracts.pour_size.Reads.Post;
  Answer = ℕ;
  answer = λ κs x. x;
  Given = Vocoder × (List ℕ × (ℕ × ℕ));
  given = λ κs a. (a.0, (a.1.0.now, (a.1.1.0, a.1.1.1.0)));
  Lent = Unit {0};
  lent = λ κs a. tt;
  left = λ κs s. tt;
}

-- pour_rows(vocoder: Vocoder, cells: Cells<'_>, m: usize, b: usize, out: &mut [u8])
abbrev pub pour_rows : Call
pour_rows = record {
  lifetimes = 2;
  parameters = contracts.pour_rows.Kinds.ps;
  result = contracts.pour_rows.Kinds.r;
  allows = contracts.pour_rows.Reads.Post;
  Answer = Unit {0};
  answer = λ κs x. x;
  Given = Vocoder × (Bundle × (ℕ × ℕ));
  given = λ κs a. (a.0, (as_bundle a.1.0, (a.1.1.0, a.1.1.1.0)));
  Lent = LentOut;
  lent = λ κs a. record { out = a.1.1.1.1.0.now };
  left = λ κs s. record { out = s.1.1.1.1.0.now };
}

-- pour_held_in(numbers: GroupNumbers, cells: Cells<'_>, out: &mut [u8]) -> Result<usize, Refusal>
abbrev pub pour_held_in : Call
pour_held_in = record {
  lifetimes = 2;
  parameters = contracts.pour_held_in.Kinds.ps;
  result = contracts.pour_held_in.Kinds.r;
  allows = contracts.pour_held_in.Reads.Post;
  Answer = Result ℕ Refusal;
  answer = λ κs x. x;
  Given = GroupNumbers × Bundle;
  given = λ κs a. (a.0, as_bundle a.1.0);
  Lent = LentOut;
  lent = λ κs a. record { out = a.1.1.0.now };
  left = λ κs s. record { out = s.1.1.0.now };
}

-- pour_held(h: Holding, out: &mut [u8]) -> Result<usize, Refusal>
abbrev pub pour_held : Call
pour_held = record {
  lifetimes = 1;
  parameters = contracts.pour_held.Kinds.ps;
  result = contracts.pour_held.Kinds.r;
  allows = contracts.pour_held.Reads.Post;
  Answer = Result ℕ Refusal;
  answer = λ κs x. x;
  Given = Holding;
  given = λ κs a. a.0;
  Lent = LentOut;
  lent = λ κs a. record { out = a.1.0.now };
  left = λ κs s. record { out = s.1.0.now };
}

-- pour(h: Holding, out: &mut [u8]) -> Result<usize, Refusal>
abbrev pub pour : Call
pour = record {
  lifetimes = 1;
  parameters = contracts.pour.Kinds.ps;
  result = contracts.pour.Kinds.r;
  allows = contracts.pour.Reads.Post;
  Answer = Result ℕ Refusal;
  answer = λ κs x. x;
  Given = Holding;
  given = λ κs a. a.0;
  Lent = LentOut;
  lent = λ κs a. record { out = a.1.0.now };
  left = λ κs s. record { out = s.1.0.now };
}
