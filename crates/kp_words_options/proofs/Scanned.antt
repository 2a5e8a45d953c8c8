-- The words are read as they say, and read where they say something that fits.
use Rattle.std.proofs.Common.{◌≡◌, ◌∙◌, ◌+◌, ◌&&◌, ◌||◌, ℕ, Bool, true, false, not, List, [], ◌∷◌, ◌++◌, Option, Some, None, refl, ap, sym, subst, codes, length, arith, true≢false, cond, option_and_then}
use Rattle.std.specs.List.{list_all}
use Rattle.std.specs.Str.{bytes_eq}
use Rattle.std.proofs.lemmas.Slice.Eq.{bytes_eq-Decides}
use Rattle.std.proofs.lemmas.Bool.{or_parts, not-true}
use Rattle.clap.specs.Lexer.{long_of}
use Rattle.clap.proofs.WalkLemmas.{both}
use Rattle.kp_words_options.specs.Words.{Said, Says, word, option, nothing, a_word, apart, joined, is_option_name, is_plain, has_text, differ, option_names, positionals}
use Rattle.kp_words_options.specs.Scan.{State, after_option, has_value, is_alone, may_stand, scan, with_name}
use Rattle.kp_words_options.proofs.Rows.{other_way}
use Rattle.kp_words_options.proofs.Assigned.{among_append}
use Rattle.kp_words_options.proofs.Options.{long_apart, long_is, long_joined}

abbrev Texts : Type 0
Texts = List (List ℕ)

-- none of the second is among the first
abbrev pub are_fresh : Texts → Texts → Bool
are_fresh seen = list_all (λ m. not (has_text seen m))

abbrev idle : Texts → ℕ → State
idle seen places = record { seen = seen; waits = false; places = places }

abbrev waiting : Texts → ℕ → State
waiting seen places = record { seen = seen; waits = true; places = places }

same_when : (a b : Bool) → a ≡ false → b ≡ false → (a || (b || false)) ≡ false
same_when a b e f = rw (e, f) refl

fresh_more : (seen : Texts) (name : List ℕ) (ms : Texts) → are_fresh seen ms ≡ true → has_text ms name ≡ false → are_fresh (seen ++ name ∷ []) ms ≡ true
fresh_more seen name [] e f = refl
fresh_more seen name (m ∷ ms) e f =
    let parts = both (not (has_text seen m)) (are_fresh seen ms) e in
    let more = or_parts (bytes_eq m name) (has_text ms name) f in
    let here : has_text (seen ++ name ∷ []) m ≡ false = among_append seen (name ∷ []) m ∙ same_when (has_text seen m) (bytes_eq name m) (not-true _ parts.0) (other_way m name more.0) in
    rw (here, fresh_more seen name ms parts.1 more.1) refl

pub all_fresh : (ms : Texts) → are_fresh [] ms ≡ true
all_fresh [] = refl
all_fresh (m ∷ ms) = all_fresh ms

-- ---- what says something that fits is read

pub complete : (options : Texts) (words : Texts) (said : List Said) (seen : Texts) (places n : ℕ) → Says words said → list_all (has_text options) (option_names said) ≡ true
    → are_fresh seen (option_names said) ≡ true → differ (option_names said) ≡ true → n ≡ places + length (positionals said) → scan options (idle seen places) words ≡ Some n
complete options _ _ seen places n nothing known fresh once count = ap Some (omega (arith, count))
complete options _ _ seen places n (a_word w words said plain says) known fresh once count =
    rw plain (complete options words said seen (places + 1) n says known fresh once (omega (arith, count)))
complete options _ _ seen places n (apart name v words said named plain says) known fresh once count =
    let k = both (has_text options name) (list_all (has_text options) (option_names said)) known in
    let f = both (not (has_text seen name)) (are_fresh seen (option_names said)) fresh in
    let o = both (not (has_text (option_names said) name)) (differ (option_names said)) once in
    rw (long_apart name named, k.0, f.0, plain) (complete options words said (seen ++ name ∷ []) places n says k.1 (fresh_more seen name (option_names said) f.1 (not-true _ o.0)) o.1 count)
complete options _ _ seen places n (joined name v words said named plain says) known fresh once count =
    let k = both (has_text options name) (list_all (has_text options) (option_names said)) known in
    let f = both (not (has_text seen name)) (are_fresh seen (option_names said)) fresh in
    let o = both (not (has_text (option_names said) name)) (differ (option_names said)) once in
    rw (long_joined name v named, k.0, f.0, plain) (complete options words said (seen ++ name ∷ []) places n says k.1 (fresh_more seen name (option_names said) f.1 (not-true _ o.0)) o.1 count)

-- ---- and what is read says something that fits

pub record Scans (options seen : Texts) (places : ℕ) (words : Texts) (said : List Said) (n : ℕ) : Type 0 where
  pub says : Says words said
  pub count : n ≡ places + length (positionals said)
  pub known : list_all (has_text options) (option_names said) ≡ true
  pub fresh : are_fresh seen (option_names said) ≡ true
  pub once : differ (option_names said) ≡ true

abbrev Idle : Texts → Texts → Type 0
Idle options words = (seen : Texts) (places n : ℕ) → scan options (idle seen places) words ≡ Some n → (said : List Said) × Scans options seen places words said n

abbrev Waiting : Texts → Texts → Type 0
Waiting options words = (seen : Texts) (places n : ℕ) → scan options (waiting seen places) words ≡ Some n
    → (v : List ℕ) × (rest : Texts) × (words ≡ v ∷ rest) × (is_plain v ≡ true) × (said : List Said) × Scans options seen places rest said n

named_at : (options : Texts) (name : List ℕ) → list_all is_option_name options ≡ true → has_text options name ≡ true → is_option_name name ≡ true
named_at [] name all e = absurd (true≢false (sym e))
named_at (o ∷ options) name all e =
    let parts = both (is_option_name o) (list_all is_option_name options) all in
    go (bytes_eq o name) refl parts.0 e (named_at options name parts.1)
  where
    go : (b : Bool) → bytes_eq o name ≡ b → is_option_name o ≡ true → (b || has_text options name) ≡ true → (has_text options name ≡ true → is_option_name name ≡ true) → is_option_name name ≡ true
    go true f g h next = subst (λ (t : List ℕ). is_option_name t ≡ true) ((bytes_eq-Decides o name).0 f) g
    go false f g h next = next h

-- of fresh names, and the one seen last
fresh_less : (seen : Texts) (name : List ℕ) (ms : Texts) → are_fresh (seen ++ name ∷ []) ms ≡ true → (are_fresh seen ms ≡ true) × (has_text ms name ≡ false)
fresh_less seen name [] e = (refl, refl)
fresh_less seen name (m ∷ ms) e =
    let parts = both (not (has_text (seen ++ name ∷ []) m)) (are_fresh (seen ++ name ∷ []) ms) e in
    let here = or_parts (has_text seen m) (has_text (name ∷ []) m) (sym (among_append seen (name ∷ []) m) ∙ not-true _ parts.0) in
    let there = or_parts (bytes_eq name m) false here.1 in
    let rest = fresh_less seen name ms parts.1 in
    (rw (here.0, rest.0) refl, rw (other_way name m there.0, rest.1) refl)

-- one more option in front
with_option : (options seen : Texts) (places : ℕ) (whole rest : Texts) (name v : List ℕ) (said : List Said) (n : ℕ) → has_text options name ≡ true → has_text seen name ≡ false
    → Says whole (option name v ∷ said) → Scans options (seen ++ name ∷ []) places rest said n → Scans options seen places whole (option name v ∷ said) n
with_option options seen places whole rest name v said n among new says reads =
    let less = fresh_less seen name (option_names said) reads.fresh in
    record {
      says = says;
      count = reads.count;
      known = rw (among, reads.known) refl;
      fresh = rw (new, less.0) refl;
      once = rw (less.1, reads.once) refl;
    }

idle_option : (options : Texts) (w : List ℕ) (words : Texts) → list_all is_option_name options ≡ true → Idle options words → Waiting options words
    → (seen : Texts) (places n : ℕ) → (o : Option (List ℕ × Option (List ℕ))) → long_of w ≡ o
    → option_and_then (λ t. scan options t words) (after_option options (idle seen places) o) ≡ Some n
    → (said : List Said) × Scans options seen places (w ∷ words) said n
idle_option options w words all idly waits seen places n None e f = absurd cc
idle_option options w words all idly waits seen places n (Some (name, v)) e f = go (may_stand options (idle seen places) name && has_value v) refl f
  where
    value : (v : Option (List ℕ)) → long_of w ≡ Some (name, v) → has_value v ≡ true → has_text options name ≡ true → has_text seen name ≡ false
        → scan options (with_name (idle seen places) name (is_alone v)) words ≡ Some n → (said : List Said) × Scans options seen places (w ∷ words) said n
    value None is has among new h =
        let rest = waits (seen ++ name ∷ []) places n h in
        let words_are : w ∷ words ≡ (codes "--" ++ name) ∷ rest.0 ∷ rest.1 = rw (long_is w name None is, rest.2) refl in
        let says = subst (λ (ws : Texts). Says ws (option name rest.0 ∷ rest.4)) (sym words_are) (apart name rest.0 rest.1 rest.4 (named_at options name all among) rest.3 rest.5.says) in
        (option name rest.0 ∷ rest.4, with_option options seen places (w ∷ words) rest.1 name rest.0 rest.4 n among new says rest.5)
    value (Some v) is has among new h =
        let rest = idly (seen ++ name ∷ []) places n h in
        let words_are : w ∷ words ≡ (codes "--" ++ (name ++ (codes "=" ++ v))) ∷ words = rw (long_is w name (Some v) is) refl in
        let says = subst (λ (ws : Texts). Says ws (option name v ∷ rest.0)) (sym words_are) (joined name v words rest.0 (named_at options name all among) has rest.1.says) in
        (option name v ∷ rest.0, with_option options seen places (w ∷ words) words name v rest.0 n among new says rest.1)

    go : (b : Bool) → (may_stand options (idle seen places) name && has_value v) ≡ b
        → option_and_then (λ t. scan options t words) (cond b (Some (with_name (idle seen places) name (is_alone v))) None) ≡ Some n
        → (said : List Said) × Scans options seen places (w ∷ words) said n
    go false g h = absurd cc
    go true g h =
        let parts = both (may_stand options (idle seen places) name) (has_value v) g in
        let stands = both (has_text options name) (not (has_text seen name)) parts.0 in
        value v e parts.1 stands.0 (not-true _ stands.1) h

idle_step : (options : Texts) (w : List ℕ) (words : Texts) → list_all is_option_name options ≡ true → Idle options words → Waiting options words → Idle options (w ∷ words)
idle_step options w words all idly waits seen places n e = go (is_plain w) refl e
  where
    go : (b : Bool) → is_plain w ≡ b
        → option_and_then (λ t. scan options t words) (cond b (Some (idle seen (places + 1))) (after_option options (idle seen places) (long_of w))) ≡ Some n
        → (said : List Said) × Scans options seen places (w ∷ words) said n
    go true plain h =
        let rest = idly seen (places + 1) n h in (
          word w ∷ rest.0,
          record {
            says = a_word w words rest.0 plain rest.1.says;
            count = omega (arith, rest.1.count);
            known = rest.1.known;
            fresh = rest.1.fresh;
            once = rest.1.once;
          },
        )
    go false plain h = idle_option options w words all idly waits seen places n (long_of w) refl h

waiting_step : (options : Texts) (w : List ℕ) (words : Texts) → Idle options words → Waiting options (w ∷ words)
waiting_step options w words idly seen places n e = go (is_plain w) refl e
  where
    go : (b : Bool) → is_plain w ≡ b → option_and_then (λ t. scan options t words) (cond b (Some (idle seen places)) None) ≡ Some n
        → (v : List ℕ) × (rest : Texts) × (w ∷ words ≡ v ∷ rest) × (is_plain v ≡ true) × (said : List Said) × Scans options seen places rest said n
    go true plain h =
        let rest = idly seen places n h in
        (w, words, refl, plain, rest.0, rest.1)
    go false plain h = absurd cc

pub sound : (options : Texts) → list_all is_option_name options ≡ true → (words : Texts) → Idle options words × Waiting options words
sound options all [] =
    (λ seen places n e. ([], record { says = nothing; count = let f : places ≡ n = cc in omega (arith, f); known = refl; fresh = refl; once = refl }), λ seen places n e. absurd cc)
sound options all (w ∷ words) =
    let rest = sound options all words in
    (idle_step options w words all rest.0 rest.1, waiting_step options w words rest.0)
