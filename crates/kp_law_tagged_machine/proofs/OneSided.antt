-- For examples: where no effect of an action deletes what one of its effects adds, no step fires an add together with its delete.
use Rattle.std.proofs.Common.{◌≡◌, ℕ, Bool, true, not, sym, ap, ap₂, ◌∙◌}
use Rattle.std.proofs.lemmas.Bool.{and_parts, false≢true, false_from_ne_true}
use Rattle.std.specs.List.{list_all}
use Rattle.kp_base.specs.declared.ground.Action.{Action}
use Rattle.kp_base.specs.declared.ground.Ground.{Ground}
use Rattle.kp_base.specs.declared.ground.Initial.{Initial}
use Rattle.kp_base.specs.Lit.{positive, negative, negated, same_lit}
use Rattle.kp_base.specs.Steps.{State, holds, fires}
use Rattle.kp_base.specs.Clashes.{NeverClashes, clashes_at}
use Rattle.kp_base.proofs.Lists.{all_member}
use Rattle.kp_base.proofs.Lits.{same_lit-refl}
use Rattle.kp_law_tagged_machine.proofs.Inductive.{fired}

-- no effect of the action deletes what one of its effects adds
abbrev pub is_one_sided : Action → Bool
is_one_sided a = list_all (λ e. list_all (λ f. not (same_lit f.result (negated e.result))) a.effects) a.effects

one_at_most : (a : Action) (s : State) (p : ℕ) → is_one_sided a ≡ true → clashes_at a s p ≡ true → ⊥
one_at_most a s p sided h =
    let both = and_parts (fires a.effects (holds s) (positive p)) (fires a.effects (holds s) (negative p)) h in
    let add = fired a s (positive p) both.0 in
    let del = fired a s (negative p) both.1 in
    let apart : not (same_lit del.0.result (negated add.0.result)) ≡ true = all_member (λ f. not (same_lit f.result (negated add.0.result))) a.effects del.0 del.1 (all_member (λ e. list_all (λ f. not (same_lit f.result (negated e.result))) a.effects) a.effects add.0 add.1 sided) in
    let one : same_lit del.0.result (negated add.0.result) ≡ true = ap₂ (λ x y. same_lit x (negated y)) del.2 add.2 ∙ same_lit-refl (negative p) in
    false≢true (ap not (sym one) ∙ apart)

pub never_clashes : (g : Ground) (i : Initial) → list_all is_one_sided g.actions ≡ true → NeverClashes g i
never_clashes g i sided = record { no_clash = λ s ns a p model ran in-a ok. false_from_ne_true (clashes_at a _ p) (one_at_most a _ p (all_member is_one_sided g.actions a in-a sided)) }
