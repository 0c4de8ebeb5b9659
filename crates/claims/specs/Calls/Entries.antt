-- Made by tools/calls --write from the sources: the public calls of crates/entries.
use Rattle.std.specs.Prelude.{ℕ, List, Result}
use Rattle.answers.specs.declared.Refusal.{Refusal}
use Rattle.entries.specs.declared.Rule.{Rule}
use Rattle.frame.specs.declared.Vocoder.{Vocoder}
use Rattle.entries.proofs as contracts
use Rattle.claims.specs.Call.{Call}
use Rattle.claims.specs.Calls.Lent.{LentOut}

-- count(vocoder: Vocoder, rule: Rule, entries: &[u8], from: usize) -> Result<usize, Refusal>
abbrev pub count : Call
count = record {
  lifetimes = 1;
  parameters = contracts.count.Kinds.ps;
  result = contracts.count.Kinds.r;
  allows = contracts.count.Reads.Post;
  Answer = Result ℕ Refusal;
  answer = λ κs x. x;
  Given = Vocoder × (Rule × (List ℕ × ℕ));
  given = λ κs a. (a.0, (a.1.0, (a.1.1.0.now, a.1.1.1.0)));
  Lent = Unit {0};
  lent = λ κs a. tt;
  left = λ κs s. tt;
}

-- seek(vocoder: Vocoder, entries: &[u8], k: usize) -> usize
abbrev pub seek : Call
seek = record {
  lifetimes = 1;
  parameters = contracts.seek.Kinds.ps;
  result = contracts.seek.Kinds.r;
  allows = contracts.seek.Reads.Post;
  Answer = ℕ;
  answer = λ κs x. x;
  Given = Vocoder × (List ℕ × ℕ);
  given = λ κs a. (a.0, (a.1.0.now, a.1.1.0));
  Lent = Unit {0};
  lent = λ κs a. tt;
  left = λ κs s. tt;
}

-- write_cleared(vocoder: Vocoder, out: &mut [u8], at: usize, entries: &[u8])
abbrev pub write_cleared : Call
write_cleared = record {
  lifetimes = 2;
  parameters = contracts.write_cleared.Kinds.ps;
  result = contracts.write_cleared.Kinds.r;
  allows = contracts.write_cleared.Reads.Post;
  Answer = Unit {0};
  answer = λ κs x. x;
  Given = Vocoder × (ℕ × List ℕ);
  given = λ κs a. (a.0, (a.1.1.0, a.1.1.1.0.now));
  Lent = LentOut;
  lent = λ κs a. record { out = a.1.0.now };
  left = λ κs s. record { out = s.1.0.now };
}
