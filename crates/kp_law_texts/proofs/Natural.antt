-- A form reads whatever its words are: another word for each word, and it reads and stops the same.
use Rattle.std.proofs.Common.{◌≡◌, ℕ, Bool, List, [], ◌∷◌, map, ◌⊎◌, inl, inr, refl, sym, ap, subst, ◌∙◌}
use Rattle.kp_base.proofs.Lists.{flat_swap}
use Rattle.kp_tree_grammar.specs.declared.symbol.Symbol.{Symbol}
use Rattle.kp_tree_grammar.specs.declared.tree.Word.{Word}
use Rattle.kp_tree_grammar.specs.Language.{Cond, Conds, conds_of, Eff, Effs, effs_of, Item, Items, items_of, Section, section_types, section_constants, section_predicates, section_schemas, Given, given_objects, given_items, goal_of, Tok, is_left, is_right, first_is, Sort, El, with_kinds, Maker, apply, m_word, m_drop, m_name, m_variable, m_atom, m_untyped, m_kind, m_kinds, m_typed, m_joined, m_all, m_true, m_holds, m_same, m_both, m_idle, m_when, m_each, m_makes, m_lit, m_items, m_fact, m_one_of, m_any_of, m_unknown, m_pred, m_no_params, m_schema, m_requires, m_types, m_constants, m_predicates, m_action, m_domain, m_of_domain, m_needs, m_objects, m_init, m_goal, m_saw, m_problem, hits, Form, At, stop_by, reason_of, ReadBy, r_token, r_none, r_both, r_after, r_end, r_more, r_last, r_next, r_absent, r_present, r_make, r_choice, r_loose, r_bracket, r_within, StopBy, s_token, s_nothing, s_first, s_second, s_before, s_after, s_here, s_later, s_lacks, s_at, s_next, s_present, s_make, s_none_there, s_choice, s_loose, s_unopened, s_inside, s_unclosed, s_within, typed_map, cond_map, conds_map, eff_map, effs_map, item_map, items_map, pred_map, schema_map}
use Rattle.kp_tree_grammar.proofs.Public.{reads_once, reads_or_stops, form_reads_or_stops}
use Rattle.kp_law_texts.specs.Tokens.{text_of}
use Rattle.kp_law_texts.specs.Maps.{section_map, given_map, el_map, ReadsWithPlaces, PlacesDontMatter}

module _ {V W : Type 0} (f : V → W) where
  -- ---- each maker makes the same of other words

  conds_same : (cs : List (Cond V)) → conds_map f (conds_of cs) ≡ conds_of (map (cond_map f) cs)
  conds_same [] = refl
  conds_same (c ∷ cs) = ap (λ (ds : Conds W). Conds.more_conds (cond_map f c) ds) (conds_same cs)

  effs_same : (es : List (Eff V)) → effs_map f (effs_of es) ≡ effs_of (map (eff_map f) es)
  effs_same [] = refl
  effs_same (e ∷ es) = ap (λ (ds : Effs W). Effs.more_effs (eff_map f e) ds) (effs_same es)

  items_same : (is : List (Item V)) → items_map f (items_of is) ≡ items_of (map (item_map f) is)
  items_same [] = refl
  items_same (i ∷ is) = ap (λ (ds : Items W). Items.more_items (item_map f i) ds) (items_same is)

  kinds_same : (ks ws : List V) → map (typed_map f) (with_kinds ks ws) ≡ with_kinds (map f ks) (map f ws)
  kinds_same ks [] = refl
  kinds_same ks (w ∷ ws) = ap (λ xs. typed_map f (record { word = w; kinds = ks }) ∷ xs) (kinds_same ks ws)

  types_same : (s : Section V) → map (typed_map f) (section_types s) ≡ section_types (section_map f s)
  types_same (Section.types xs) = refl
  types_same _ = refl

  constants_same : (s : Section V) → map (typed_map f) (section_constants s) ≡ section_constants (section_map f s)
  constants_same (Section.constants xs) = refl
  constants_same _ = refl

  predicates_same : (s : Section V) → map (pred_map f) (section_predicates s) ≡ section_predicates (section_map f s)
  predicates_same (Section.predicates ps) = refl
  predicates_same _ = refl

  schemas_same : (s : Section V) → map (schema_map f) (section_schemas s) ≡ section_schemas (section_map f s)
  schemas_same (Section.action a) = refl
  schemas_same _ = refl

  objects_same : (g : Given V) → map (typed_map f) (given_objects g) ≡ given_objects (given_map f g)
  objects_same (Given.objects xs) = refl
  objects_same _ = refl

  init_same : (g : Given V) → map (item_map f) (given_items g) ≡ given_items (given_map f g)
  init_same (Given.init is) = refl
  init_same _ = refl

  goal_same : (gs : List (Given V)) → cond_map f (goal_of gs) ≡ goal_of (map (given_map f) gs)
  goal_same [] = refl
  goal_same (Given.goal c ∷ gs) = refl
  goal_same (Given.of_domain ∷ gs) = goal_same gs
  goal_same (Given.requires ∷ gs) = goal_same gs
  goal_same (Given.objects xs ∷ gs) = goal_same gs
  goal_same (Given.init is ∷ gs) = goal_same gs

  natural : {a b : Sort} (m : Maker a b) (x : El V a) → el_map V W f b (apply V m x) ≡ apply W m (el_map V W f a x)
  natural m_all x = ap (λ (cs : Conds W). Cond.all cs) (conds_same x)
  natural m_both x = ap (λ (es : Effs W). Eff.both es) (effs_same x)
  natural m_items x = ap (λ (is : Items W). Item.items is) (items_same x)
  natural m_typed x = kinds_same x.1 (x.0.0 ∷ x.0.1)
  natural m_joined x = flat_swap (typed_map f) (λ ts. ts) (λ ts. ts) (map (typed_map f)) x (λ ts. refl)
  natural m_domain x = rw (flat_swap (typed_map f) section_types section_types (section_map f) x.1 types_same, flat_swap (typed_map f) section_constants section_constants (section_map f) x.1 constants_same, flat_swap (pred_map f) section_predicates section_predicates (section_map f) x.1 predicates_same, flat_swap (schema_map f) section_schemas section_schemas (section_map f) x.1 schemas_same) refl
  natural m_problem x = rw (flat_swap (typed_map f) given_objects given_objects (given_map f) x.1 objects_same, flat_swap (item_map f) given_items given_items (given_map f) x.1 init_same, goal_same x.1) refl
  natural m_word x = refl
  natural m_drop x = refl
  natural m_name x = refl
  natural m_variable x = refl
  natural m_atom x = refl
  natural m_untyped x = refl
  natural m_kind x = refl
  natural m_kinds x = refl
  natural m_true x = refl
  natural (m_holds b) x = refl
  natural (m_same b) x = refl
  natural m_idle x = refl
  natural m_when x = refl
  natural m_each x = refl
  natural (m_makes b) x = refl
  natural (m_lit b) x = refl
  natural (m_fact b) x = refl
  natural m_one_of x = refl
  natural m_any_of x = refl
  natural m_unknown x = refl
  natural m_pred x = refl
  natural m_no_params x = refl
  natural m_schema x = refl
  natural m_requires x = refl
  natural m_types x = refl
  natural m_constants x = refl
  natural m_predicates x = refl
  natural m_action x = refl
  natural m_of_domain x = refl
  natural m_needs x = refl
  natural m_objects x = refl
  natural m_init x = refl
  natural m_goal x = refl
  natural (m_saw s) x = refl

  -- ---- reading and stopping

  abbrev over_one : Tok V → Tok W
  over_one t = record { symbol = t.symbol; word = f t.word }

  abbrev over : List (Tok V) → List (Tok W)
  over ts = map over_one ts

  first_same : (p : Symbol → Bool) (ts : List (Tok V)) → first_is p (over ts) ≡ first_is p ts
  first_same p [] = refl
  first_same p (t ∷ ts) = refl

  moved : {b : Bool} {a : Sort} (X : Form b a) (ts rest : List (Tok W)) (x y : El W a) → x ≡ y → ReadBy b a X ts y rest → ReadBy b a X ts x rest
  moved X ts rest x y e h = subst (λ (z : El W _). ReadBy _ _ X ts z rest) (sym e) h

  reads_over : {b : Bool} {c : Sort} {X : Form b c} {ts : List (Tok V)} {x : El V c} {rest : List (Tok V)} → ReadBy b c X ts x rest → ReadBy b c X (over ts) (el_map V W f c x) (over rest)
  reads_over (r_token {c = c} {p = p} {m = m} {t = t} {ts = ts} e) = moved _ _ _ _ _ (natural (m t.symbol) t.word) (r_token e)
  reads_over (r_none {m = m}) = moved _ _ _ _ _ (natural m tt) r_none
  reads_over (r_both h k) = r_both (reads_over h) (reads_over k)
  reads_over (r_after e h) = r_after e (reads_over h)
  reads_over (r_end {p = p} {ts = ts} e) = r_end (first_same p ts ∙ e)
  reads_over (r_more {p = p} {ts = ts} e h k) = r_more (first_same p ts ∙ e) (reads_over h) (reads_over k)
  reads_over (r_last {p = p} {ts = ts} e d) = r_last (first_same p ts ∙ e) d
  reads_over (r_next {p = p} {ts = ts} e h k) = r_next (first_same p ts ∙ e) (reads_over h) (reads_over k)
  reads_over (r_absent {p = p} {m = m} {ts = ts} e) = moved _ _ _ _ _ (natural m tt) (r_absent (first_same p ts ∙ e))
  reads_over (r_present {p = p} {ts = ts} e h) = r_present (first_same p ts ∙ e) (reads_over h)
  reads_over (r_make {m = m} {x = x} h) = moved _ _ _ _ _ (natural m x) (r_make (reads_over h))
  reads_over (r_choice h) = r_choice (reads_over h)
  reads_over (r_loose h) = r_loose (reads_over h)
  reads_over (r_bracket e h k) = r_bracket e (reads_over h) k
  reads_over (r_within h) = r_within (reads_over h)

  abbrev at_over : At V → At W
  at_over at = record { tokens = over at.tokens; reason = at.reason }

  stop_same : {b : Bool} {c : Sort} (X : Form b c) (us : List (Tok W)) (q : Symbol → Bool) (ts : List (Tok V)) → StopBy b c X us (stop_by q (over ts)) → StopBy b c X us (at_over (stop_by q ts))
  stop_same X us q ts h = subst (λ (v : Bool). StopBy _ _ X us (record { tokens = over ts; reason = reason_of v })) (first_same q ts) h

  stops_over : {b : Bool} {c : Sort} {X : Form b c} {ts : List (Tok V)} {at : At V} → StopBy b c X ts at → StopBy b c X (over ts) (at_over at)
  stops_over (s_token {p = p} {ts = ts} e) = s_token (first_same (hits p) ts ∙ e)
  stops_over (s_nothing {q = q} {ts = ts}) = stop_same _ _ q ts s_nothing
  stops_over (s_first h) = s_first (stops_over h)
  stops_over (s_second h k) = s_second (reads_over h) (stops_over k)
  stops_over (s_before {p = p} {ts = ts} e) = s_before (first_same (hits p) ts ∙ e)
  stops_over (s_after e h) = s_after e (stops_over h)
  stops_over (s_here {p = p} {ts = ts} e h) = s_here (first_same p ts ∙ e) (stops_over h)
  stops_over (s_later {p = p} {ts = ts} e h k) = s_later (first_same p ts ∙ e) (reads_over h) (stops_over k)
  stops_over (s_lacks {p = p} {ts = ts} e d) = s_lacks (first_same p ts ∙ e) d
  stops_over (s_at {p = p} {ts = ts} e h) = s_at (first_same p ts ∙ e) (stops_over h)
  stops_over (s_next {p = p} {ts = ts} e h k) = s_next (first_same p ts ∙ e) (reads_over h) (stops_over k)
  stops_over (s_present {p = p} {ts = ts} e h) = s_present (first_same p ts ∙ e) (stops_over h)
  stops_over (s_make h) = s_make (stops_over h)
  stops_over s_none_there = s_none_there
  stops_over (s_choice h) = s_choice (stops_over h)
  stops_over (s_loose h) = s_loose (stops_over h)
  stops_over (s_unopened {ts = ts} e) = s_unopened (first_same is_left ts ∙ e)
  stops_over (s_inside e h) = s_inside e (stops_over h)
  stops_over (s_unclosed {rest = rest} e h k) = s_unclosed e (reads_over h) (first_same is_right rest ∙ k)
  stops_over (s_within h) = s_within (stops_over h)

-- ---- and back: what reads without places reads with them, as a tree that becomes that tree

nothing_left : {V W : Type 0} (f : V → W) (rest : List (Tok V)) → over f rest ≡ [] → rest ≡ []
nothing_left f [] e = refl
nothing_left f (t ∷ ts) e = absurd cc

module _ {b : Bool} {c : Sort} (X : Form b c) (ts : List (Tok Word)) (y : El (List ℕ) c) (h : ReadBy b c X (over text_of ts) y []) where
  back : ((x : El Word c) × (rest : List (Tok Word)) × ReadBy b c X ts x rest) ⊎ ((at : At Word) × StopBy b c X ts at) → ReadsWithPlaces X ts y
  back (inl r) =
      let same = reads_once (reads_over text_of r.2) h in
      let gone : r.1 ≡ [] = nothing_left text_of r.1 (ap (λ (z : El (List ℕ) c × List (Tok (List ℕ))). z.1) same) in
      record { tree = r.0; is = ap (λ (z : El (List ℕ) c × List (Tok (List ℕ))). z.0) same; reads = subst (λ (us : List (Tok Word)). ReadBy b c X ts r.0 us) gone r.2 }
  back (inr r) = absurd (reads_or_stops h (stops_over text_of r.1))

pub places_dont_matter : PlacesDontMatter
places_dont_matter b c X ts y h = back X ts y h (form_reads_or_stops b c X ts)
