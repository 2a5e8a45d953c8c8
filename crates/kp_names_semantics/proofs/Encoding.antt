-- What is encoded is decoded, and the other way round.
use Rattle.std.proofs.Common.{◌≡◌, ℕ, Bool, true, false, not, List, [], ◌∷◌, ◌++◌, refl, sym, ap, subst, ◌∙◌, Some, None, Option, option_map, option_and_then, if◌then◌else◌, ◌==◌, eqb-true}
use Rattle.std.specs.List.{list_any}
use Rattle.std.proofs.lemmas.Iterator.Adapters.{option_map_id}
use Rattle.kp_base.specs.declared.ground.GroundName.{GroundName}
use Rattle.kp_names_semantics.specs.Names.{Name}
use Rattle.kp_names_semantics.specs.Encoding.{underscore, dash, doubled, encoded_objects, encoded, with_byte, split, is_empty, name_of, HasNoEmptyPart, EncodedDecodes, DecodedIsEncoding}

abbrev name : Name → List Name → GroundName
name x xs = record { head = x; objects = xs }

-- ---- from names to words and back

-- the bytes in front of the first component
abbrev with_all : List ℕ → List Name → List Name
with_all [] xs = xs
with_all (b ∷ bs) xs = with_byte b (with_all bs xs)

with_all_first : (bs : List ℕ) (xs : List Name) → with_all bs ([] ∷ xs) ≡ bs ∷ xs
with_all_first [] xs = refl
with_all_first (b ∷ bs) xs = ap (with_byte b) (with_all_first bs xs)

map_map : {X Y Z : Type 0} (f : X → Y) (g : Y → Z) (o : Option X) → option_map g (option_map f o) ≡ option_map (λ x. g (f x)) o
map_map f g None = refl
map_map f g (Some x) = refl

-- any byte but an underscore stands for itself
pub plain_byte : (b : ℕ) (rest : List ℕ) → (b == underscore) ≡ false → split (b ∷ rest) ≡ option_map (with_byte b) (split rest)
plain_byte b [] e = rw e refl
plain_byte b (c ∷ cs) e = rw e refl

split_doubled : (x : Name) (rest : List ℕ) → split (doubled x ++ rest) ≡ option_map (with_all x) (split rest)
split_doubled [] rest = sym (option_map_id (split rest))
split_doubled (b ∷ bs) rest = pick (split_doubled bs rest) (b == underscore) refl
  where
    pick : split (doubled bs ++ rest) ≡ option_map (with_all bs) (split rest) → (t : Bool) → (b == underscore) ≡ t → split (((if t then underscore ∷ underscore ∷ [] else b ∷ []) ++ doubled bs) ++ rest) ≡ option_map (with_all (b ∷ bs)) (split rest)
    pick others true e =
        let f : b ≡ underscore = eqb-true b underscore e in
        subst (λ z. option_map (with_byte underscore) (split (doubled bs ++ rest)) ≡ option_map (with_all (z ∷ bs)) (split rest)) (sym f)
        (ap (option_map (with_byte underscore)) others ∙ map_map (with_all bs) (with_byte underscore) (split rest))
    pick others false e = plain_byte b (doubled bs ++ rest) e ∙ (ap (option_map (with_byte b)) others ∙ map_map (with_all bs) (with_byte b) (split rest))

split_part : (x : Name) (os : List Name) → split (encoded_objects os) ≡ Some ([] ∷ os) → split (doubled x ++ encoded_objects os) ≡ Some (x ∷ os)
split_part x os h = split_doubled x (encoded_objects os) ∙ (ap (option_map (with_all x)) h ∙ ap Some (with_all_first x os))

split_objects : (os : List Name) → split (encoded_objects os) ≡ Some ([] ∷ os)
split_objects [] = refl
split_objects (o ∷ os) = ap (option_map (λ xs. [] ∷ xs)) (split_part o os (split_objects os))

named : (x : Name) (xs : List Name) → list_any is_empty (x ∷ xs) ≡ false → name_of (x ∷ xs) ≡ Some (name x xs)
named x xs h = rw h refl

-- what is encoded has its parts as components, empty ones too
split_encoded : (n : GroundName) → split (encoded n) ≡ Some (n.head ∷ n.objects)
split_encoded n = split_part n.head n.objects (split_objects n.objects)

pub encoded_once : (n m : GroundName) → encoded n ≡ encoded m → n ≡ m
encoded_once n m e =
    let parts = sym (split_encoded n) ∙ ap split e ∙ split_encoded m in
    let head : n.head ≡ m.head = cc in
    let objects : n.objects ≡ m.objects = cc in
    ap (λ (x : Name). name x n.objects) head ∙ ap (name m.head) objects

pub encoded_decodes : EncodedDecodes
encoded_decodes n h = rw (split_encoded n) (named n.head n.objects h)

-- ---- from words to names and back

-- components as they are written
abbrev written : List Name → List ℕ
written [] = []
written (x ∷ xs) = doubled x ++ encoded_objects xs

map_some : {X Y : Type 0} (f : X → Y) (o : Option X) (y : Y) → option_map f o ≡ Some y → (x : X) × (o ≡ Some x) × (f x ≡ y)
map_some f None y h = cc
map_some f (Some x) y h = (x, refl, cc)

written_plain : (b : ℕ) (xs : List Name) → (b == underscore) ≡ false → written (with_byte b xs) ≡ b ∷ written xs
written_plain b [] e = rw e refl
written_plain b (x ∷ xs) e = rw e refl

written_underscore : (xs : List Name) → written (with_byte underscore xs) ≡ underscore ∷ underscore ∷ written xs
written_underscore [] = refl
written_underscore (x ∷ xs) = refl

-- a word is never split into no component
some_component : (word : List ℕ) → split word ≡ Some [] → ⊥
some_component [] h = cc
some_component (b ∷ []) h = pick (b == underscore) h
  where
    pick : (t : Bool) → (if t then None else Some ((b ∷ []) ∷ [])) ≡ Some [] → ⊥
    pick true e = cc
    pick false e = cc
some_component (b ∷ c ∷ cs) h = pick (b == underscore) (c == underscore) (c == dash) h
  where
    in_front : (d : ℕ) (o : Option (List Name)) → option_map (with_byte d) o ≡ Some [] → ⊥
    in_front d None e = cc
    in_front d (Some []) e = cc
    in_front d (Some (x ∷ xs)) e = cc

    ended : (o : Option (List Name)) → option_map (λ xs. [] ∷ xs) o ≡ Some [] → ⊥
    ended None e = cc
    ended (Some xs) e = cc

    pick : (t u v : Bool) → (if not t then option_map (with_byte b) (split (c ∷ cs)) else if u then option_map (with_byte underscore) (split cs) else if v then option_map (λ xs. [] ∷ xs) (split cs) else None) ≡ Some [] → ⊥
    pick false u v e = in_front b (split (c ∷ cs)) e
    pick true true v e = in_front underscore (split cs) e
    pick true false true e = ended (split cs) e
    pick true false false e = cc

written_split : (word : List ℕ) (xs : List Name) → split word ≡ Some xs → written xs ≡ word
written_split [] xs h = let e : ([] ∷ []) ≡ xs = cc in subst (λ z. written z ≡ []) e refl
written_split (b ∷ []) xs h = pick (b == underscore) refl h
  where
    pick : (t : Bool) → (b == underscore) ≡ t → (if t then None else Some ((b ∷ []) ∷ [])) ≡ Some xs → written xs ≡ b ∷ []
    pick true e g = cc
    pick false e g = let f : ((b ∷ []) ∷ []) ≡ xs = cc in subst (λ z. written z ≡ b ∷ []) f (written_plain b [] e)
written_split (b ∷ c ∷ cs) xs h = pick (λ ys. written_split (c ∷ cs) ys) (λ ys. written_split cs ys) (b == underscore) (c == underscore) (c == dash) refl refl refl h
  where
    pick : ((ys : List Name) → split (c ∷ cs) ≡ Some ys → written ys ≡ c ∷ cs) → ((ys : List Name) → split cs ≡ Some ys → written ys ≡ cs) → (t u v : Bool) → (b == underscore) ≡ t → (c == underscore) ≡ u → (c == dash) ≡ v → (if not t then option_map (with_byte b) (split (c ∷ cs)) else if u then option_map (with_byte underscore) (split cs) else if v then option_map (λ ys. [] ∷ ys) (split cs) else None) ≡ Some xs → written xs ≡ b ∷ c ∷ cs
    pick one two false u v e f g h =
        let r = map_some (with_byte b) (split (c ∷ cs)) xs h in
        subst (λ z. written z ≡ b ∷ c ∷ cs) r.2 (written_plain b r.0 e ∙ ap (λ z. b ∷ z) (one r.0 r.1))
    pick one two true true v e f g h =
        let r = map_some (with_byte underscore) (split cs) xs h in
        let p : b ≡ underscore = eqb-true b underscore e in
        let q : c ≡ underscore = eqb-true c underscore f in
        let w : (underscore ∷ underscore ∷ cs) ≡ b ∷ c ∷ cs = cc in
        subst (λ z. written z ≡ b ∷ c ∷ cs) r.2 (written_underscore r.0 ∙ (ap (λ z. underscore ∷ underscore ∷ z) (two r.0 r.1) ∙ w))
    pick one two true false true e f g h =
        let r = map_some (λ ys. [] ∷ ys) (split cs) xs h in
        let p : b ≡ underscore = eqb-true b underscore e in
        let q : c ≡ dash = eqb-true c dash g in
        let w : (underscore ∷ dash ∷ cs) ≡ b ∷ c ∷ cs = cc in
        subst (λ z. written z ≡ b ∷ c ∷ cs) r.2 (next r.0 r.1 ∙ (ap (λ z. underscore ∷ dash ∷ z) (two r.0 r.1) ∙ w))
      where
        next : (ys : List Name) → split cs ≡ Some ys → written ([] ∷ ys) ≡ underscore ∷ dash ∷ written ys
        next [] k = absurd (some_component cs k)
        next (y ∷ ys) k = refl
    pick one two true false false e f g h = cc

named_parts : (xs : List Name) (n : GroundName) → name_of xs ≡ Some n → (list_any is_empty xs ≡ false) × (xs ≡ n.head ∷ n.objects)
named_parts [] n h = cc
named_parts (x ∷ xs) n h = pick (list_any is_empty (x ∷ xs)) refl h
  where
    pick : (t : Bool) → list_any is_empty (x ∷ xs) ≡ t → (if t then None else Some (name x xs)) ≡ Some n → (list_any is_empty (x ∷ xs) ≡ false) × ((x ∷ xs) ≡ n.head ∷ n.objects)
    pick true e g = cc
    pick false e g = let f : name x xs ≡ n = cc in (e, ap (λ m. m.head ∷ m.objects) f)

pub decoded_is_encoding : DecodedIsEncoding
decoded_is_encoding word n h = pick (split word) refl h
  where
    pick : (o : Option (List Name)) → split word ≡ o → option_and_then name_of o ≡ Some n → HasNoEmptyPart n × (encoded n ≡ word)
    pick None e g = cc
    pick (Some xs) e g =
        let p = named_parts xs n g in
        (subst (λ z. list_any is_empty z ≡ false) p.1 p.0, subst (λ z. written z ≡ word) p.1 (written_split word xs e))
