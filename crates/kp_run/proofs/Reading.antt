-- What is read of the files of a command, name after name.
use Rattle.std.proofs.Common.{◌≡◌, ◌∙◌, ◌++◌, ◌||◌, ◌<◌, ℕ, zero, suc, Bool, true, false, nat_lt, List, [], ◌∷◌, Option, Some, None, Vec, Result, Ok, Err, IfOk, map, filter_map, length, append_assoc, append-nil, take, drop, get_or, codes, bytes_eq, if◌then◌else◌, refl, sym, ap, subst, arith}
use Rattle.std.specs.Borrow.{Bor}
use Rattle.std.specs.FinMap.{get}
use Rattle.std.specs.declared.alloc.Global.{Global}
use Rattle.std.proofs.lemmas.List.{take_all, take_at, length-append}
use Rattle.std.proofs.lemmas.Bool.Decides.{nat_tests}
use Rattle.std.proofs.lemmas.Slice.Eq.{bytes_eq-Decides}
use Rattle.kp_base.specs.declared.limits.Mode.{Mode}
use Rattle.kp_base.specs.Files.{most_bytes}
use Rattle.kp_outside.specs.declared.outside.Got.{Got}
use Rattle.kp_outside.specs.declared.outside.Shelf.{Ghosts as Shelf}
use Rattle.kp_outside.specs.declared.outside.OutsideStop.{OutsideStop}
use Rattle.kp_outside.specs.declared.outside.OutsideStop.TheVariants as stops
use Rattle.kp_outside.specs.Outside.{FileMap, Gets, Counts, IsFront, IsWithin, Rises}
use Rattle.kp_run_inputs.specs.declared.origin.Origin.{Origin}
use Rattle.kp_run_inputs.specs.declared.origin.Origin.TheVariants as origins
use Rattle.kp_run_inputs.specs.SourceTables.{IsOrigin, IsShort, from_mode, from_file}
use Rattle.kp_run_outcome.specs.declared.outcome.Outcome.{Outcome}
use Rattle.kp_run_outcome.specs.Ends.{AreHeld, GetFails, OnlyReads}
use Rattle.kp_run_outcome.proofs.Public.{front_is_within}
use Rattle.kp_words_options.specs.Texts.{texts}
use Rattle.kp_words_options.specs.Words.{has_text}
use Rattle.kp_words.specs.declared.verb.Verb.{Verb}
use Rattle.kp_words.specs.Forms.{form}
use Rattle.kp_words.specs.Asked.{Source, Asked, source_by, source_of}
use Rattle.kp_words.specs.Command.{IsCommand, file_under, file_among, if_named, file_of}
use Rattle.kp_words.proofs.Public.{file_of_merges_is}
use Rattle.kp_run.specs.declared.inputs.Inputs.{Inputs}
use Rattle.kp_run.specs.CommandParts.{AreMerges, AreInputs, IsReadOf, AreReadOf, AreReadUnder, with_read}
use Rattle.kp_run.specs.Contents.{Contents, AreContentsUnder, AreContents}
use Rattle.kp_run.specs.Outcomes.{ComesTo, IsDue, of_command}

-- ---- what is held

pub none_held : (held : Option FileMap) → AreHeld held [] []
none_held None = refl
none_held (Some m) = refl

-- the one content that is held under a name
pub content_held : (m : FileMap) (name x : List ℕ) → AreHeld (Some m) (name ∷ []) (x ∷ []) → get m name ≡ Some x
content_held m name x h = cc

pub held_alone : (m : FileMap) (name x : List ℕ) → get m name ≡ Some x → AreHeld (Some m) (name ∷ []) (x ∷ [])
held_alone m name x h = ap (λ (o : Option (List ℕ)). o ∷ []) h

-- what is held of merges, by the source or by the name
pub merges_held : (held : Option FileMap) (c : Asked) (texts : List (List ℕ)) → AreHeld held (if_named c.merges) texts → AreHeld held (if_named (file_of (source_of c))) texts
merges_held held c texts h = subst (λ (o : Option (List ℕ)). AreHeld held (if_named o) texts) (sym (file_of_merges_is c.mode c.merges)) h

pub named_held : (held : Option FileMap) (c : Asked) (texts : List (List ℕ)) → AreHeld held (if_named (file_of (source_of c))) texts → AreHeld held (if_named c.merges) texts
named_held held c texts h = subst (λ (o : Option (List ℕ)). AreHeld held (if_named o) texts) (file_of_merges_is c.mode c.merges) h

-- what is held under names, one list behind the other
pub held_both : (held : Option FileMap) (ns ms xs ys : List (List ℕ)) → AreHeld held ns xs → AreHeld held ms ys → AreHeld held (ns ++ ms) (xs ++ ys)
held_both None ns ms xs ys h k = length-append xs ys ∙ (omega (arith, h, k, length-append ns ms))
held_both (Some m) ns ms xs ys h k = by ns xs h
  where
    by : (ns xs : List (List ℕ)) → map (get m) ns ≡ map Some xs → map (get m) (ns ++ ms) ≡ map Some (xs ++ ys)
    by [] [] h = k
    by [] (x ∷ xs) h = absurd cc
    by (n ∷ ns) [] h = absurd cc
    by (n ∷ ns) (x ∷ xs) h =
        let first : get m n ≡ Some x = cc in
        let others : map (get m) ns ≡ map Some xs = cc in
        cc (first, by ns xs others)

-- what was read of a file that tells nothing is what would be read of some file
some_text : (got : Got) → IsWithin most_bytes got → (text : List ℕ) × IsFront (Some text) most_bytes got
some_text got h = by got.more refl
  where
    by : (more : Bool) → got.more ≡ more → (text : List ℕ) × IsFront (Some text) most_bytes got
    by true e = (got.bytes ++ (0 ∷ []), (sym (take_at got.bytes (0 ∷ []) most_bytes (h.1 e)), e ∙ sym (longer (h.1 e))))
      where
        longer : length got.bytes ≡ most_bytes → nat_lt most_bytes (length (got.bytes ++ (0 ∷ []))) ≡ true
        longer n = grind (arith, nat_tests, length-append got.bytes (0 ∷ []), n)
    by false e = (got.bytes, (sym (take_all most_bytes got.bytes h.0), e ∙ sym (grind (arith, nat_tests, h.0))))

-- what was got of a name is the front of a content that it holds
pub content_of : (held : Option FileMap) (name : List ℕ) (got : Got) → Gets held name most_bytes got → IsWithin most_bytes got → (text : List ℕ) × AreHeld held (name ∷ []) (text ∷ []) × IsFront (Some text) most_bytes got
content_of None name got gets within = let t = some_text got within in (t.0, refl, t.1)
content_of (Some m) name got gets within = by (get m name) refl gets
  where
    by : (o : Option (List ℕ)) → get m name ≡ o → IsFront o most_bytes got → (text : List ℕ) × AreHeld (Some m) (name ∷ []) (text ∷ []) × IsFront (Some text) most_bytes got
    by None e front = absurd front
    by (Some text) e front = (text, held_alone m name text e, front)

-- ---- one name more

-- what stands under names, one list behind the other
files_both : {X Y : Type 0} (f : X → Option Y) (xs ys : List X) → filter_map f (xs ++ ys) ≡ filter_map f xs ++ filter_map f ys
files_both f [] ys = refl
files_both {X} {Y} f (x ∷ xs) ys = by (f x) refl (files_both f xs ys)
  where
    by : (o : Option Y) → f x ≡ o → filter_map f (xs ++ ys) ≡ filter_map f xs ++ filter_map f ys → filter_map f (x ∷ (xs ++ ys)) ≡ filter_map f (x ∷ xs) ++ filter_map f ys
    by None e rest = rw e rest
    by (Some y) e rest = rw e (ap (y ∷◌) rest)

one_file : {X Y : Type 0} (f : X → Option Y) (x : X) (y : Y) → f x ≡ Some y → filter_map f (x ∷ []) ≡ y ∷ []
one_file f x y e = rw e refl

no_file : {X Y : Type 0} (f : X → Option Y) (x : X) → f x ≡ None → filter_map f (x ∷ []) ≡ []
no_file f x e = rw e refl

-- a get that fails of a name among others fails of all of them
pub fails_among : (f : List ℕ → Option (List ℕ)) (before : List (List ℕ)) (n : List ℕ) (after texts : List (List ℕ)) (held : Option FileMap) (first old new : List ℕ → ℕ) → ((q : List ℕ) → old q ≡ first q) → AreHeld held (filter_map f before) texts
    → GetFails (filter_map f (n ∷ [])) held old new → GetFails (filter_map f (before ++ n ∷ after)) held first new
fails_among f before n after texts held first old new same were h =
    let left = filter_map f after in
    let here : filter_map f (n ∷ after) ≡ h.front ++ h.name ∷ (h.rest ++ left) = files_both f (n ∷ []) after ∙ (ap (λ (ns : List (List ℕ)). ns ++ left) h.in_order ∙ append_assoc h.front (h.name ∷ h.rest) left) in
    record {
      front = filter_map f before ++ h.front;
      name = h.name;
      rest = h.rest ++ left;
      in_order = files_both f before (n ∷ after) ∙ (ap (λ (ns : List (List ℕ)). filter_map f before ++ ns) here ∙ sym (append_assoc (filter_map f before) h.front (h.name ∷ (h.rest ++ left))));
      texts = texts ++ h.texts;
      are_held = held_both held (filter_map f before) h.front texts h.texts were h.are_held;
      rises = subst (λ (k : ℕ). Rises k (new h.name)) (same h.name) h.rises;
    }

-- a get that fails of the one name
pub fails_alone : {S T U : Type 0} (s : Shelf S) (old new : S) (f : List ℕ → Option (List ℕ)) (n file : List ℕ) (e : OutsideStop) (r : Result U OutsideStop) → f n ≡ Some file → r ≡ Err e → Counts r file (s.get_faults old) (s.get_faults new)
    → s.contents new ≡ s.contents old → ((q : List ℕ) → s.put_faults new q ≡ s.put_faults old q) → OnlyReads {S = S} {T = T} s old new (GetFails (filter_map f (n ∷ []))) (Err e)
fails_alone {S} {T} {U} s old new f n file e r is failed counts same puts = by e (subst (λ (x : Result U OutsideStop). Counts x file (s.get_faults old) (s.get_faults new)) failed counts)
  where
    by : (e : OutsideStop) → Counts {T = U} (Err e) file (s.get_faults old) (s.get_faults new) → OnlyReads {S = S} {T = T} s old new (GetFails (filter_map f (n ∷ []))) (Err e)
    by stops.Failed c = record { failed = λ x. record { front = []; name = file; rest = []; in_order = one_file f n file is; texts = []; are_held = none_held (s.contents old); rises = c.0 }; get_faults = λ ne. absurd (ne refl); contents = same; put_faults = puts }
    by stops.Memory c = record { failed = λ x. absurd cc; get_faults = λ ne. c; contents = same; put_faults = puts }

-- a name is among some and one more
among_more : (names : List (List ℕ)) (n x : List ℕ) → has_text (names ++ n ∷ []) x ≡ (if bytes_eq n x then true else has_text names x)
among_more [] n x = alone (bytes_eq n x)
  where
    alone : (b : Bool) → (b || false) ≡ (if b then true else false)
    alone true = refl
    alone false = refl
among_more (m ∷ ms) n x = by (bytes_eq m x) (bytes_eq n x) (among_more ms n x)
  where
    by : (b d : Bool) → has_text (ms ++ n ∷ []) x ≡ (if d then true else has_text ms x) → (b || has_text (ms ++ n ∷ []) x) ≡ (if d then true else (b || has_text ms x))
    by true true e = refl
    by true false e = refl
    by false d e = e

module _ (held : Option FileMap) (c : Asked) (names : List (List ℕ)) (n : List ℕ) where
  -- another name stands for the file for which it stood
  other_among : (x : List ℕ) → bytes_eq n x ≡ false → file_among (names ++ n ∷ []) c x ≡ file_among names c x
  other_among x e = ap (λ (b : Bool). if b then file_under c x else None) (among_more names n x ∙ ap (λ (b : Bool). if b then true else has_text names x) e)

  -- this name stands for its file
  this_among : (x : List ℕ) → bytes_eq n x ≡ true → file_among (names ++ n ∷ []) c x ≡ file_under c n
  this_among x e =
      ap (λ (b : Bool). if b then file_under c x else None) (among_more names n x ∙ ap (λ (b : Bool). if b then true else has_text names x) e)
      ∙ ap (file_under c) (sym ((bytes_eq-Decides n x).0 e))

  -- a part is as it was read, or read now
  part : {G : Type 0} (R : Option (List ℕ) → G → Type 0) (old new : G) (x file : List ℕ) → file_under c n ≡ Some file → R (file_among names c x) old → R (Some file) new → R (file_among (names ++ n ∷ []) c x) (if bytes_eq n x then new else old)
  part {G} R old new x file is was now = by (bytes_eq n x) refl
    where
      by : (b : Bool) → bytes_eq n x ≡ b → R (file_among (names ++ n ∷ []) c x) (if b then new else old)
      by true e = subst (λ o. R o new) (sym (this_among x e ∙ is)) now
      by false e = subst (λ o. R o old) (sym (other_among x e)) was

  pub read_more : (r : Inputs) (file text : List ℕ) (got : Got) → file_under c n ≡ Some file → AreHeld held (file ∷ []) (text ∷ []) → IsFront (Some text) most_bytes got → AreReadUnder held names c r → AreReadUnder held (names ++ n ∷ []) c (with_read n got r)
  read_more r file text got is here front h =
      let one : IsReadOf held (Some file) got = record { text = text; is = here; front = front } in
      record {
        domain = part (IsReadOf held) r.domain got (codes "D") file is h.domain one;
        problem = part (IsReadOf held) r.problem got (codes "P") file is h.problem one;
        merges = part (AreReadOf held) r.merges (Some got) (codes "merges") file is h.merges (record { texts = text ∷ []; are = here; fronts = front });
        plan = part (IsReadOf held) r.plan got (codes "PLAN") file is h.plan one;
        written = part (IsReadOf held) r.written got (codes "T") file is h.written one;
        texts = h.texts ++ text ∷ [];
        all_held =
            subst (λ (ns : List (List ℕ)). AreHeld held ns (h.texts ++ text ∷ [])) (sym (files_both (file_under c) names (n ∷ []) ∙ ap (λ (ns : List (List ℕ)). filter_map (file_under c) names ++ ns) (one_file (file_under c) n file is)))
            (held_both held (filter_map (file_under c) names) (file ∷ []) h.texts (text ∷ []) h.all_held here);
      }

  -- where there is no file under the name, nothing changes
  none_among : file_under c n ≡ None → (x : List ℕ) → file_among names c x ≡ file_among (names ++ n ∷ []) c x
  none_among none x = by (bytes_eq n x) refl
    where
      nowhere : (b : Bool) → file_under c x ≡ None → (if b then file_under c x else None) ≡ None
      nowhere true e = e
      nowhere false e = refl

      by : (b : Bool) → bytes_eq n x ≡ b → file_among names c x ≡ file_among (names ++ n ∷ []) c x
      by true e = nowhere (has_text names x) (ap (file_under c) (sym ((bytes_eq-Decides n x).0 e)) ∙ none) ∙ sym (this_among x e ∙ none)
      by false e = sym (other_among x e)

  pub read_as_before : (r : Inputs) → file_under c n ≡ None → AreReadUnder held names c r → AreReadUnder held (names ++ n ∷ []) c r
  read_as_before r none h = record {
    domain = subst (λ o. IsReadOf held o r.domain) (none_among none (codes "D")) h.domain;
    problem = subst (λ o. IsReadOf held o r.problem) (none_among none (codes "P")) h.problem;
    merges = subst (λ o. AreReadOf held o r.merges) (none_among none (codes "merges")) h.merges;
    plan = subst (λ o. IsReadOf held o r.plan) (none_among none (codes "PLAN")) h.plan;
    written = subst (λ o. IsReadOf held o r.written) (none_among none (codes "T")) h.written;
    texts = h.texts;
    all_held = subst (λ (ns : List (List ℕ)). AreHeld held ns h.texts) (sym (files_both (file_under c) names (n ∷ []) ∙ (ap (λ (ns : List (List ℕ)). filter_map (file_under c) names ++ ns) (no_file (file_under c) n none) ∙ append-nil (filter_map (file_under c) names)))) h.all_held;
  }

-- names one after the other, as they are borrowed
pub texts_split : (xs : List (Bor (List ℕ))) (i : ℕ) (d : Bor (List ℕ)) → i < length xs → texts xs ≡ texts (take i xs) ++ (get_or xs i d).now ∷ texts (drop (suc i) xs)
texts_split [] i d lt = absurd (omega (arith, lt))
texts_split (x ∷ xs) zero d lt = refl
texts_split (x ∷ xs) (suc i) d lt = ap (x.now ∷◌) (texts_split xs i d (omega (arith, lt)))

-- ---- what was read of all

module _ (held : Option FileMap) (names : List (List ℕ)) (c : Asked) (r : Inputs) (h : AreReadUnder held names c r) where
  abbrev pub contents_read : Contents
  contents_read = record { domain = h.domain.text; problem = h.problem.text; merges = h.merges.texts; plan = h.plan.text; written = h.written.text }

  pub contents_are : AreContentsUnder names held c contents_read
  contents_are = record { domain = h.domain.is; problem = h.problem.is; merges = h.merges.are; plan = h.plan.is; written = h.written.is }

  pub inputs_are : AreInputs contents_read r
  inputs_are = record { domain = h.domain.front; problem = h.problem.front; merges = h.merges.fronts; plan = h.plan.front; written = h.written.front }

pub read_within : (held : Option FileMap) (name : Option (List ℕ)) (got : Got) → IsReadOf held name got → IsWithin most_bytes got
read_within held name got h = front_is_within h.text most_bytes got h.front

-- ---- where tags and merges come from

-- a command of this verb may read a file of merges
abbrev pub reads_merges : Verb → Bool
reads_merges v = has_text (form v).reads (codes "merges")

pub merges_under : (v : Verb) (held : Option FileMap) (c : Asked) (texts : List (List ℕ)) → reads_merges v ≡ true → AreHeld held (if_named (file_among (form v).reads c (codes "merges"))) texts → AreHeld held (if_named c.merges) texts
merges_under v held c texts reads h = subst (λ (b : Bool). AreHeld held (if_named (if b then file_under c (codes "merges") else None)) texts) reads h

-- what is read of a file of merges is short
pub short_origin : (source : Source) (merges : List (List ℕ)) (o : Origin) → IsOrigin source merges o → IsShort o
short_origin _ _ _ (from_mode m) = tt
short_origin _ _ _ (from_file name text got front) = front_is_within text most_bytes got front

-- what was read of the file of merges, or the mode
abbrev pub origin_by : Mode → Option Got → Origin
origin_by mode None = origins.Mode mode
origin_by mode (Some got) = origins.Merges got

pub origin_is : (mode : Mode) (name : Option (List ℕ)) (held : Option FileMap) (texts : List (List ℕ)) (got : Option Got) → AreHeld held (if_named name) texts → AreMerges texts got → IsOrigin (source_by mode name) texts (origin_by mode got)
origin_is mode None held [] None h m = from_mode mode
origin_is mode None held [] (Some got) h m = absurd m
origin_is mode None None (t ∷ ts) got h m = absurd (omega (arith, h))
origin_is mode None (Some f) (t ∷ ts) got h m = absurd cc
origin_is mode (Some name) None [] got h m = absurd (omega (arith, h))
origin_is mode (Some name) (Some f) [] got h m = absurd cc
origin_is mode (Some name) held (t ∷ []) None h m = absurd m
origin_is mode (Some name) held (t ∷ []) (Some got) h m = from_file name t got m
origin_is mode (Some name) held (t ∷ u ∷ us) got h m = absurd m

-- ---- calls that only read

pub only_then : {S T U : Type 0} (s : Shelf S) (old new : S) (fails others : Option FileMap → (List ℕ → ℕ) → (List ℕ → ℕ) → Type 0) (x : T) (y : U) → OnlyReads s old new fails (Ok x) → OnlyReads s old new others (Ok y)
only_then s old new fails others x y h = record { failed = λ e. absurd cc; get_faults = λ ne. h.get_faults (λ e. cc); contents = h.contents; put_faults = h.put_faults }

pub only_memory : {S T U : Type 0} (s : Shelf S) (old new : S) (fails : Option FileMap → (List ℕ → ℕ) → (List ℕ → ℕ) → Type 0) (x : T) → OnlyReads s old new fails (Ok x) → (r : Result U OutsideStop) → r ≡ Err stops.Memory → OnlyReads s old new fails r
only_memory s old new fails x h r is = record { failed = λ e. absurd cc; get_faults = λ ne. h.get_faults (λ e. cc); contents = h.contents; put_faults = h.put_faults }

-- ---- what is due

-- what a command comes to is due
pub due_of : (words : List (Vec ℕ Global)) (held : Option FileMap) (c : Asked) (r : Result Outcome OutsideStop) → IsCommand words c
    → IfOk r (λ o. (t : Contents) × AreContents held c t × ComesTo c t o) → IfOk r (IsDue words held)
due_of words held c (Ok o) is comes = of_command c comes.0 o is comes.1 comes.2
due_of words held c (Err s) is comes = tt
