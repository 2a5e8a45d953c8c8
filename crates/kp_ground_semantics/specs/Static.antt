-- Static predicates, whose atoms keep the truth that `:init` gives them, and conditions without their literals.
use Rattle.std.specs.Prelude.{◌≡◌, ◌==◌, ℕ, Bool, true, false, not, ◌&&◌, ◌||◌, List, [], ◌∷◌, ◌++◌}
use Rattle.std.specs.List.{list_any, list_all}
use Rattle.kp_base.specs.Lists.{only_if, signed}
use Rattle.kp_names_semantics.specs.declared.lifted.GroundLit.{GroundLit}
use Rattle.kp_names_semantics.specs.declared.lifted.Item.{Item}
use Rattle.kp_names_semantics.specs.Numbered.{Cond, Conds, Eff, Effs, Lifted}
use Rattle.kp_names_semantics.specs.Lifted.{State, Binding, object_of, literal, literal_holds, item_literals, is_of}

-- ---- static predicates

-- an effect names the predicate, whether or not it can ever fire
abbrev mutual
  pub changes : ℕ → Eff → Bool
  changes q (Eff.both es) = some_change q es
  changes q (Eff.when c e) = changes q e
  changes q (Eff.each rs e) = changes q e
  changes q (Eff.makes positive r ts) = r == q

  pub some_change : ℕ → Effs → Bool
  some_change q Effs.no_eff = false
  some_change q (Effs.more_effs e es) = changes q e || some_change q es

-- an item of `:init` doesn't name the predicate, or it is one of its atoms
abbrev pub leaves_static : ℕ → Item → Bool
leaves_static q (Item.One l) = l.positive || not (l.pred == q)
leaves_static q i = not (list_any (λ l. l.pred == q) (item_literals i))

-- the predicate is static: no effect names it, and each item that does is one of its atoms
abbrev pub is_static : Lifted → ℕ → Bool
is_static l q = not (list_any (λ a. changes q a.effect) l.schemas) && list_all (leaves_static q) l.init

-- the item is this atom
abbrev pub says : ℕ → List ℕ → Item → Bool
says q os (Item.One l) = l.positive && is_of q os l
says q os i = false

-- what `:init` says of an atom of a static predicate: it is true where some item is this atom
abbrev pub initially : Lifted → State
initially l q os = list_any (says q os) l.init

-- the atoms of static predicates are as `:init` says
abbrev pub HasStaticTruth : Lifted → State → Type 0
HasStaticTruth l s = (q : ℕ) (os : List ℕ) → is_static l q ≡ true → s q os ≡ initially l q os

-- ---- conditions without static literals and equalities

-- whether all static literals and all equalities of a condition are true
abbrev mutual
  pub settled : Lifted → Binding → Cond → Bool
  settled l b (Cond.all cs) = all_settled l b cs
  settled l b (Cond.atom positive q ts) = not (is_static l q) || literal_holds (initially l) (literal positive q ts b)
  settled l b (Cond.same positive left right) = signed positive (object_of b left == object_of b right)

  pub all_settled : Lifted → Binding → Conds → Bool
  all_settled l b Conds.no_cond = true
  all_settled l b (Conds.more_conds c cs) = settled l b c && all_settled l b cs

-- the other literals of a condition, in text order
abbrev mutual
  pub remaining : Lifted → Binding → Cond → List GroundLit
  remaining l b (Cond.all cs) = all_remaining l b cs
  remaining l b (Cond.atom positive q ts) = only_if (not (is_static l q)) (literal positive q ts b ∷ [])
  remaining l b (Cond.same positive left right) = []

  pub all_remaining : Lifted → Binding → Conds → List GroundLit
  all_remaining l b Conds.no_cond = []
  all_remaining l b (Conds.more_conds c cs) = remaining l b c ++ all_remaining l b cs
