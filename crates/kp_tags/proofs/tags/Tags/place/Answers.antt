use Rattle.std.proofs.Common.{◌∙◌, ap, sym, map, Vec, Global}
use Rattle.kp_base.specs.declared.lit.Lit.{Lit}
use Rattle.kp_tags.specs.MergeTables.{number_in}
use Rattle.kp_tags.proofs.Positions.{place_there, place_nowhere}
use Rattle.kp_tags.proofs.tags.Tags.place.Goals as goal

pub returns-in-Some : goal.returns-in-Some
returns-in-Some c =
    rw (← c.self.view_is)
    (place_there (λ (k : Vec Lit Global). k.items) c.slice.result.now c.self.inside.set.keys c.in-Some.place (sym c.get_index_of.ensures.index ∙ c.in-Some.is)
    ∙ ap (number_in (map (λ (k : Vec Lit Global). k.items) c.self.inside.set.keys)) c.slice.ensures.value)

pub returns-in-None : goal.returns-in-None
returns-in-None c =
    rw (← c.self.view_is)
    (c.len.ensures.len ∙ (place_nowhere (λ (k : Vec Lit Global). k.items) c.slice.result.now c.self.inside.set.keys (sym c.get_index_of.ensures.index ∙ c.in-None.is)
    ∙ ap (number_in (map (λ (k : Vec Lit Global). k.items) c.self.inside.set.keys)) c.slice.ensures.value))
