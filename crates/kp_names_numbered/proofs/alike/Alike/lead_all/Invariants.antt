use Rattle.std.proofs.Common.{◌≡◌, Bool}
use Rattle.kp_names_semantics.specs.Names.{Name}
use Rattle.kp_names_numbered.specs.Alike.{AreAlike}
use Rattle.kp_names_numbered.proofs.alike.Alike.lead_all.Given as goal

-- what is the same for both names of each entry stays so, and is the same for the last type and where the walk is
abbrev pub invariant-loop : goal.invariant-loop
invariant-loop l = record {
  kept : (f : Name → Bool) → AreAlike f l.fn.self → f l.name ≡ f l.last → AreAlike f l.self;
  alike : (f : Name → Bool) → AreAlike f l.fn.self → f l.name ≡ f l.last → f l.at ≡ f l.last;
}
