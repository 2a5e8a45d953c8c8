-- Words have at most one outcome on what is held.
use Rattle.std.proofs.Common.{◌≡◌, ℕ, List, [], ◌∷◌, Option, Some, None, map, codes, refl, sym, ap, ◌∙◌, subst}
use Rattle.std.specs.FinMap.{get}
use Rattle.kp_outside.specs.Outside.{FileMap}
use Rattle.kp_words.specs.Asked.{Asked}
use Rattle.kp_words.specs.Forms.{form}
use Rattle.kp_words.specs.Command.{file_among, if_named}
use Rattle.kp_words.proofs.Public.{words_are_one_command}
use Rattle.kp_run.specs.Contents.{Contents, IsContent, AreContentsUnder, AreContents}
use Rattle.kp_run.specs.Outcomes.{usage, of_command, ComesBy}
use Rattle.kp_law_runs.specs.Laws.{HasOneOutcome}
use Rattle.kp_law_runs.proofs.ByVerb.{outcome_once}

-- names have one list of contents
held_once : (m : FileMap) (names ts us : List (List ℕ)) → map (get m) names ≡ map Some ts → map (get m) names ≡ map Some us → ts ≡ us
held_once m names ts us h k = injective ts us (sym h ∙ k)
  where
    injective : (ts us : List (List ℕ)) → map Some ts ≡ map Some us → ts ≡ us
    injective [] [] e = refl
    injective [] (u ∷ us) e = absurd cc
    injective (t ∷ ts) [] e = absurd cc
    injective (t ∷ ts) (u ∷ us) e =
        let first : t ≡ u = cc in
        let rest : map Some ts ≡ map Some us = cc in
        cc (first, injective ts us rest)

-- files hold one content each
one_content : (m : FileMap) (name : Option (List ℕ)) (x y : List ℕ) → IsContent (Some m) name x → IsContent (Some m) name y → x ≡ y
one_content m None x y a b = a ∙ sym b
one_content m (Some name) x y a b = let same : x ∷ [] ≡ y ∷ [] = held_once m (name ∷ []) (x ∷ []) (y ∷ []) a b in cc

abbrev making : List ℕ → List ℕ → List (List ℕ) → List ℕ → List ℕ → Contents
making domain problem merges plan written = record { domain = domain; problem = problem; merges = merges; plan = plan; written = written }

contents_once : (m : FileMap) (names : List (List ℕ)) (c : Asked) (t u : Contents) → AreContentsUnder names (Some m) c t → AreContentsUnder names (Some m) c u → t ≡ u
contents_once m names c t u a b =
    let e0 = one_content m (file_among names c (codes "D")) t.domain u.domain a.domain b.domain in
    let e1 = one_content m (file_among names c (codes "P")) t.problem u.problem a.problem b.problem in
    let e2 = held_once m (if_named (file_among names c (codes "merges"))) t.merges u.merges a.merges b.merges in
    let e3 = one_content m (file_among names c (codes "PLAN")) t.plan u.plan a.plan b.plan in
    let e4 = one_content m (file_among names c (codes "T")) t.written u.written a.written b.written in
    alike t u e0 e1 e2 e3 e4
  where
    alike : (t u : Contents) → t.domain ≡ u.domain → t.problem ≡ u.problem → t.merges ≡ u.merges → t.plan ≡ u.plan → t.written ≡ u.written → t ≡ u
    alike t u e0 e1 e2 e3 e4 =
        ap (λ (x : List ℕ). making x t.problem t.merges t.plan t.written) e0 ∙ (ap (λ (x : List ℕ). making u.domain x t.merges t.plan t.written) e1
        ∙ (ap (λ (x : List (List ℕ)). making u.domain u.problem x t.plan t.written) e2
        ∙ (ap (λ (x : List ℕ). making u.domain u.problem u.merges x t.written) e3 ∙ ap (λ (x : List ℕ). making u.domain u.problem u.merges u.plan x) e4)))

pub one_outcome : HasOneOutcome
one_outcome words held _ _ (usage a) (usage b) = refl
one_outcome words held _ u (usage a) (of_command d us _ k m b) = absurd (a d k)
one_outcome words held o _ (of_command c ts _ h l a) (usage b) = absurd (b c h)
one_outcome words held o u (of_command c t _ h l a) (of_command d s _ k m b) =
    let same = words_are_one_command words c d h k in
    let here = subst (λ (x : Asked). AreContents (Some held) x t) same l in
    let made = subst (λ (x : Asked). ComesBy x.verb x t o) same a in
    outcome_once d.verb d s o u (subst (λ z. ComesBy d.verb d z o) (contents_once held (form d.verb).reads d t s here m) made) b
