-- Made by tools/calls --write from the sources: the public calls of crates/joining.
use Rattle.std.specs.Prelude.{Result}
use Rattle.answers.specs.declared.Refusal.{Refusal}
use Rattle.holding.specs.declared.Holding.{Holding}
use Rattle.joining.proofs as contracts
use Rattle.claims.specs.Call.{Call}

-- join(a: Holding, b: Holding) -> Result<Holding, Refusal>
abbrev pub join : Call
join = record {
  lifetimes = 0;
  parameters = contracts.join.Kinds.ps;
  result = contracts.join.Kinds.r;
  allows = contracts.join.Reads.Post;
  Answer = Result Holding Refusal;
  answer = λ κs x. x;
  Given = Holding × Holding;
  given = λ κs a. (a.0, a.1.0);
  Lent = Unit {0};
  lent = λ κs a. tt;
  left = λ κs s. tt;
}
