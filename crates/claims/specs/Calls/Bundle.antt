-- Made by tools/calls --write from the sources: the public calls of crates/bundle.
use Rattle.std.specs.Prelude.{ℕ, Bool}
use Rattle.bundle.specs.Bundles.{as_bundle}
use Rattle.bundle.specs.declared.Bundle.{Bundle}
use Rattle.frame.specs.declared.Vocoder.{Vocoder}
use Rattle.bundle.proofs as contracts
use Rattle.claims.specs.Call.{Call}

-- Bundle::cells(&self) -> Cells<'_>
abbrev pub bundle_cells : Call
bundle_cells = record {
  lifetimes = 1;
  parameters = contracts.Bundle.cells.Kinds.ps;
  result = contracts.Bundle.cells.Kinds.r;
  allows = contracts.Bundle.cells.Reads.Post;
  Answer = Bundle;
  answer = λ κs x. as_bundle x;
  Given = Bundle;
  given = λ κs a. a.0.now;
  Lent = Unit {0};
  lent = λ κs a. tt;
  left = λ κs s. tt;
}

-- not_held() -> Bundle
abbrev pub not_held : Call
not_held = record {
  lifetimes = 0;
  parameters = contracts.not_held.Kinds.ps;
  result = contracts.not_held.Kinds.r;
  allows = contracts.not_held.Reads.Post;
  Answer = Bundle;
  answer = λ κs x. x;
  Given = Unit {0};
  given = λ κs a. tt;
  Lent = Unit {0};
  lent = λ κs a. tt;
  left = λ κs s. tt;
}

-- same_bundles(a: Cells<'_>, b: Cells<'_>) -> bool
abbrev pub same_bundles : Call
same_bundles = record {
  lifetimes = 2;
  parameters = contracts.same_bundles.Kinds.ps;
  result = contracts.same_bundles.Kinds.r;
  allows = contracts.same_bundles.Reads.Post;
  Answer = Bool;
  answer = λ κs x. x;
  Given = Bundle × Bundle;
  given = λ κs a. (as_bundle a.0, as_bundle a.1.0);
  Lent = Unit {0};
  lent = λ κs a. tt;
  left = λ κs s. tt;
}

-- is_not_held(vocoder: Vocoder, p: Cells<'_>) -> bool
abbrev pub is_not_held : Call
is_not_held = record {
  lifetimes = 1;
  parameters = contracts.is_not_held.Kinds.ps;
  result = contracts.is_not_held.Kinds.r;
  allows = contracts.is_not_held.Reads.Post;
  Answer = Bool;
  answer = λ κs x. x;
  Given = Vocoder × Bundle;
  given = λ κs a. (a.0, as_bundle a.1.0);
  Lent = Unit {0};
  lent = λ κs a. tt;
  left = λ κs s. tt;
}

-- frames_right(vocoder: Vocoder, b: u8, p: Cells<'_>) -> bool
abbrev pub frames_right : Call
frames_right = record {
  lifetimes = 1;
  parameters = contracts.frames_right.Kinds.ps;
  result = contracts.frames_right.Kinds.r;
  allows = contracts.frames_right.Reads.Post;
  Answer = Bool;
  answer = λ κs x. x;
  Given = Vocoder × (ℕ × Bundle);
  given = λ κs a. (a.0, (a.1.0, as_bundle a.1.1.0));
  Lent = Unit {0};
  lent = λ κs a. tt;
  left = λ κs s. tt;
}
