use Rattle.std.proofs.Common.{◌≡◌, ◌∙◌, ◌++◌, ◌∷◌, [], List, ℕ, Option, filter_map, get_or, take, drop, suc, Err, refl, sym, ap, subst}
use Rattle.std.specs.Borrow.{Bor}
use Rattle.std.proofs.lemmas.List.{map_more}
use Rattle.kp_outside.specs.Outside.{FileMap}
use Rattle.kp_outside.specs.declared.outside.OutsideStop.TheVariants as stops
use Rattle.kp_run_outcome.specs.Ends.{GetFails}
use Rattle.kp_words_options.specs.Texts.{texts}
use Rattle.kp_words.specs.Forms.{form}
use Rattle.kp_words.specs.Asked.{Asked}
use Rattle.kp_words.specs.Command.{file_under}
use Rattle.kp_run.specs.CommandParts.{AreReadUnder}
use Rattle.kp_run.proofs.Reading.{texts_split, fails_among}
use Rattle.kp_run.proofs.entry.read.Goals as goal

-- what a loop takes where there is nothing
abbrev none : Bor (List ℕ)
none = record { ref_ptr = (0, 0); now = [] }

pub loop-name-init : goal.loop-name-init
loop-name-init g c = (c.new-inputs.ensures (g.S.Shelf.contents c.args.shelf.now) c.args.asked.now, refl, λ q. refl, λ q. refl)

-- one file more is read
pub loop-name-preserved : goal.loop-name-preserved
loop-name-preserved g c =
    let was = c.loop-name.invariant in
    let reads = c.reads-reads.result.now in
    let i = c.loop-name.name-index in
    let held = g.S.Shelf.contents c.args.shelf.now in
    let own = c.args.asked.now in
    let names = texts (take i reads) in
    let new = c.read_under.new.inputs in
    let only = c.in-Ok.ensures.only in (
      subst (λ (ns : List (List ℕ)). AreReadUnder held ns own new) (sym (map_more (λ s. s.now) reads i none c.loop-name-test.true))
          (subst (λ (h : Option FileMap). AreReadUnder h (names ++ (get_or reads i none).now ∷ []) own new) was.1
          (c.in-Ok.ensures.read names (subst (λ (h : Option FileMap). AreReadUnder h names own c.loop-name.inputs) (sym was.1) was.0))),
      only.contents ∙ was.1,
      λ q. only.get_faults (λ e. cc) q ∙ was.2 q,
      λ q. only.put_faults q ∙ was.3 q,
    )

-- a get failed, or found no memory
pub returns-in-Err-clause-only : goal.returns-in-Err-clause-only
returns-in-Err-clause-only g c =
    let was = c.loop-name.invariant in
    let reads = c.reads-reads.result.now in
    let i = c.loop-name.name-index in
    let held = g.S.Shelf.contents c.args.shelf.now in
    let f = file_under c.args.asked.now in
    let name = (get_or reads i none).now in
    let after = texts (drop (suc i) reads) in
    let all = sym (texts_split reads i none c.loop-name-test.true) ∙ (c.reads-reads.ensures ∙ ap (λ (k : Asked). (form k.verb).reads) c.asked.view_is) in
    let only = c.in-Err.ensures.only in
    record {
      failed = λ e. subst (λ (ns : List (List ℕ)). GetFails (filter_map f ns) held (g.S.Shelf.get_faults c.args.shelf.now) (g.S.Shelf.get_faults c.read_under.new.shelf)) all
          (fails_among f (texts (take i reads)) name after was.0.texts held _ _ _ was.2 was.0.all_held
          (subst (λ (h : Option FileMap). GetFails (filter_map f (name ∷ [])) h (g.S.Shelf.get_faults c.loop-name.shelf) (g.S.Shelf.get_faults c.read_under.new.shelf)) was.1 (only.failed (let is : c.in-Err.stop ≡ stops.Failed = cc in ap Err is))));
      get_faults = λ ne q. only.get_faults (λ e. (let is : c.in-Err.stop ≡ stops.Failed = cc in ne (ap Err is))) q ∙ was.2 q;
      contents = only.contents ∙ was.1;
      put_faults = λ q. only.put_faults q ∙ was.3 q;
    }
