-- What a form that chooses by its first token reads, where only some tests of that token are known.
use Rattle.std.proofs.Common.{◌≡◌, ℕ, Bool, true, false, List, [], ◌∷◌, Ok, refl}
use Rattle.kp_tree_grammar.specs.declared.symbol.Symbol.{Symbol}
use Rattle.kp_tree_grammar.specs.declared.symbol.Symbol.TheVariants as symbols
use Rattle.kp_tree_grammar.specs.declared.tree.Word.{Word}
use Rattle.kp_tree_grammar.specs.Language.{Tok, first_is, is_left, is_name, s_list, s_word, word, kind, kind_case, Cond, Eff, Item, ◌>>=◌, go, level, read}
use Rattle.kp_tree_parts.specs.declared.conds.Role.{Role}
use Rattle.kp_tree_parts.specs.declared.conds.Role.TheVariants as roles
use Rattle.kp_tree_parts.specs.Readers.{terms_class, test_at, body_at, eff_inside_at, each_at, lit_inside_at, item_inside_at}
use Rattle.kp_tree_cursor.specs.declared.cursor.Class.TheVariants as classes

-- a kind that isn't in brackets is a name
kind_by : (d : ℕ) (s : Symbol) (t : Tok Word) (ts : List (Tok Word)) → t.symbol ≡ s → is_left s ≡ false → go (level d) true (s_list s_word) (kind_case s) (t ∷ ts) ≡ (read 0 (word is_name) (t ∷ ts) >>= λ x. Ok (x.0 ∷ [], x.1))
kind_by d symbols.Left t ts e n = absurd cc
kind_by d _ t ts e n = refl

pub kind_is : (d : ℕ) (ts : List (Tok Word)) → first_is is_left ts ≡ false → read d kind ts ≡ (read 0 (word is_name) ts >>= λ x. Ok (x.0 ∷ [], x.1))
kind_is d [] n = refl
kind_is d (t ∷ ts) n = kind_by d t.symbol t ts refl n

-- ---- the last alternative, of a token that is none of the others

module _ (d : ℕ) (t : Tok Word) (ts us : List (Tok Word)) (is : ts ≡ t ∷ us) where
  -- of a test: a head and its terms
  pub test_head : (role : Role) (b : Bool) → (t.symbol ≡ symbols.Equal → ⊥) → (t.symbol ≡ symbols.Or → ⊥) → (t.symbol ≡ symbols.Imply → ⊥) → (t.symbol ≡ symbols.Exists → ⊥) → (t.symbol ≡ symbols.Forall → ⊥) → (t.symbol ≡ symbols.Preference → ⊥) → test_at role b d ts ≡ (body_at (terms_class role) ts >>= λ x. Ok (Cond.atom b x.0, x.1))
  unfolding test_at body_at
  test_head role b not_Equal not_Or not_Imply not_Exists not_Forall not_Preference = rw is (go_by role t.symbol refl) where
    go_by : (role : Role) (s : Symbol) → t.symbol ≡ s → test_at role b d (t ∷ us) ≡ (body_at (terms_class role) (t ∷ us) >>= λ x. Ok (Cond.atom b x.0, x.1))
    go_by _ symbols.Equal e = absurd (not_Equal e)
    go_by _ symbols.Or e = absurd (not_Or e)
    go_by _ symbols.Imply e = absurd (not_Imply e)
    go_by _ symbols.Exists e = absurd (not_Exists e)
    go_by _ symbols.Forall e = absurd (not_Forall e)
    go_by _ symbols.Preference e = absurd (not_Preference e)
    go_by roles.Condition _ e = rw e refl
    go_by roles.Goal _ e = rw e refl

  -- of an effect
  pub eff_makes : (t.symbol ≡ symbols.Right → ⊥) → (t.symbol ≡ symbols.And → ⊥) → (t.symbol ≡ symbols.When → ⊥) → (t.symbol ≡ symbols.Forall → ⊥) → (t.symbol ≡ symbols.Not → ⊥) → (t.symbol ≡ symbols.OneOf → ⊥) → (t.symbol ≡ symbols.Or → ⊥) → (t.symbol ≡ symbols.Probabilistic → ⊥) → (t.symbol ≡ symbols.Increase → ⊥) → (t.symbol ≡ symbols.Decrease → ⊥) → (t.symbol ≡ symbols.Assign → ⊥) → (t.symbol ≡ symbols.ScaleUp → ⊥) → (t.symbol ≡ symbols.ScaleDown → ⊥) → eff_inside_at d ts ≡ (body_at classes.Term ts >>= λ x. Ok (Eff.makes true x.0, x.1))
  unfolding eff_inside_at body_at
  eff_makes not_Right not_And not_When not_Forall not_Not not_OneOf not_Or not_Probabilistic not_Increase not_Decrease not_Assign not_ScaleUp not_ScaleDown = rw is (go_by t.symbol refl) where
    go_by : (s : Symbol) → t.symbol ≡ s → eff_inside_at d (t ∷ us) ≡ (body_at classes.Term (t ∷ us) >>= λ x. Ok (Eff.makes true x.0, x.1))
    go_by symbols.Right e = absurd (not_Right e)
    go_by symbols.And e = absurd (not_And e)
    go_by symbols.When e = absurd (not_When e)
    go_by symbols.Forall e = absurd (not_Forall e)
    go_by symbols.Not e = absurd (not_Not e)
    go_by symbols.OneOf e = absurd (not_OneOf e)
    go_by symbols.Or e = absurd (not_Or e)
    go_by symbols.Probabilistic e = absurd (not_Probabilistic e)
    go_by symbols.Increase e = absurd (not_Increase e)
    go_by symbols.Decrease e = absurd (not_Decrease e)
    go_by symbols.Assign e = absurd (not_Assign e)
    go_by symbols.ScaleUp e = absurd (not_ScaleUp e)
    go_by symbols.ScaleDown e = absurd (not_ScaleDown e)
    go_by _ e = rw e refl

  -- of an effect for all objects
  pub eff_each : t.symbol ≡ symbols.Forall → eff_inside_at d ts ≡ each_at d us
  unfolding eff_inside_at each_at
  eff_each e = rw is (rw e refl)

  -- of a literal
  pub lit_fact : (t.symbol ≡ symbols.Not → ⊥) → (t.symbol ≡ symbols.And → ⊥) → (t.symbol ≡ symbols.Or → ⊥) → (t.symbol ≡ symbols.OneOf → ⊥) → (t.symbol ≡ symbols.Forall → ⊥) → lit_inside_at d ts ≡ (body_at classes.Name ts >>= λ x. Ok (record { positive = true; atom = x.0 }, x.1))
  unfolding lit_inside_at body_at
  lit_fact not_Not not_And not_Or not_OneOf not_Forall = rw is (go_by t.symbol refl) where
    go_by : (s : Symbol) → t.symbol ≡ s → lit_inside_at d (t ∷ us) ≡ (body_at classes.Name (t ∷ us) >>= λ x. Ok (record { positive = true; atom = x.0 }, x.1))
    go_by symbols.Not e = absurd (not_Not e)
    go_by symbols.And e = absurd (not_And e)
    go_by symbols.Or e = absurd (not_Or e)
    go_by symbols.OneOf e = absurd (not_OneOf e)
    go_by symbols.Forall e = absurd (not_Forall e)
    go_by _ e = rw e refl

  -- of an item
  pub item_fact : (t.symbol ≡ symbols.And → ⊥) → (t.symbol ≡ symbols.Not → ⊥) → (t.symbol ≡ symbols.OneOf → ⊥) → (t.symbol ≡ symbols.Or → ⊥) → (t.symbol ≡ symbols.Unknown → ⊥) → (t.symbol ≡ symbols.Forall → ⊥) → (t.symbol ≡ symbols.Equal → ⊥) → item_inside_at d ts ≡ (body_at classes.Name ts >>= λ x. Ok (Item.fact true x.0, x.1))
  unfolding item_inside_at body_at
  item_fact not_And not_Not not_OneOf not_Or not_Unknown not_Forall not_Equal = rw is (go_by t.symbol refl) where
    go_by : (s : Symbol) → t.symbol ≡ s → item_inside_at d (t ∷ us) ≡ (body_at classes.Name (t ∷ us) >>= λ x. Ok (Item.fact true x.0, x.1))
    go_by symbols.And e = absurd (not_And e)
    go_by symbols.Not e = absurd (not_Not e)
    go_by symbols.OneOf e = absurd (not_OneOf e)
    go_by symbols.Or e = absurd (not_Or e)
    go_by symbols.Unknown e = absurd (not_Unknown e)
    go_by symbols.Forall e = absurd (not_Forall e)
    go_by symbols.Equal e = absurd (not_Equal e)
    go_by _ e = rw e refl
