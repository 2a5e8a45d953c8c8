use Rattle.std.proofs.Common.{◌≡◌, ℕ, List, true, false, is_some, sym, subst, ◌∙◌}
use Rattle.std.specs.Map.{lookup}
use Rattle.kp_names_semantics.specs.Names.{same}
use Rattle.kp_plans.proofs.Tabled.{noted, kept}
use Rattle.kp_plans.proofs.table.NameTable.note.Goals as goal

-- the name is new
pub returns-in_ok-insert : goal.returns-in_ok-insert
returns-in_ok-insert c =
    rw (← c.self.view_is)
    (noted (λ k. k.items) c.self.inside.first.entries c.insert.new.self.entries c.in_ok-word.word c.args.number _ c.in_ok-word.ensures
    (subst (λ (w : List ℕ). is_some (lookup (λ k. same w k.items) c.self.inside.first.entries) ≡ false) c.as_slice.ensures.value (sym c.contains_key.ensures ∙ c.if-not-contains_key.true))
    c.in_ok-insert.ensures.entries)

-- it has a number
pub returns-else-not-contains_key : goal.returns-else-not-contains_key
returns-else-not-contains_key c =
    rw (← c.self.view_is)
    (kept (λ k. k.items) c.self.inside.first.entries _ _ c.args.number c.in_ok-word.ensures
    (subst (λ (w : List ℕ). is_some (lookup (λ k. same w k.items) c.self.inside.first.entries) ≡ true) c.as_slice.ensures.value (sym c.contains_key.ensures ∙ c.if-not-contains_key.false)))
