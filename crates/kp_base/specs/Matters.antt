-- Which facts a task of a ground problem and a table has, and their numbers.
use Rattle.std.specs.Prelude.{ℕ, zero, suc, Bool, ◌&&◌, ◌||◌, List, [], ◌++◌, filter, map, length, nat_eq}
use Rattle.std.specs.List.{list_any, position_or_len}
use Rattle.kp_base.specs.declared.lit.Lit.{Lit}
use Rattle.kp_base.specs.declared.ground.Ground.{Ground}
use Rattle.kp_base.specs.declared.ground.TagTable.{TagTable}
use Rattle.kp_base.specs.declared.ground.FactOf.{FactOf}
use Rattle.kp_base.specs.declared.ground.Merge.{Merge}
use Rattle.kp_base.specs.Lists.{Member}
use Rattle.kp_base.specs.Lit.{same_lit}
use Rattle.kp_base.specs.Relevance.{IsRelevant}
use Rattle.kp_base.specs.Linked.{lits_from, is_relevant}

-- ---- which facts there are

-- the literal matters under the tag: under tag 0 each does, and under another where it is relevant to the target of a merge that has the tag
pub data Matters (g : Ground) (table : TagTable) : ℕ → Lit → Type 0 where
  under_tag_0 : (l : Lit) → Matters g table 0 l
  to_merge : (t : ℕ) (l : Lit) (m : Merge) → Member table.merges m → Member m.tags t → IsRelevant g.actions l m.target → Matters g table t l

-- the merge has the tag, and the literal is relevant to its target
abbrev pub needs : Ground → ℕ → Lit → Merge → Bool
needs g t l m = list_any (nat_eq t) m.tags && is_relevant g l m.target

-- the same as a test
unfoldable pub matters : Ground → TagTable → ℕ → Lit → Bool
matters g table t l = nat_eq t 0 || list_any (needs g t l) table.merges

-- ---- the facts

-- the same fact
abbrev pub same_fact : FactOf → FactOf → Bool
same_fact f h = nat_eq f.tag h.tag && same_lit f.lit h.lit

-- that some literals are known under a tag
abbrev pub under : ℕ → List Lit → List FactOf
under t ls = map (λ l. record { lit = l; tag = t }) ls

-- literals under each of n tags from t on
abbrev pub facts_from : ℕ → ℕ → List Lit → List FactOf
facts_from t zero ls = []
facts_from t (suc n) ls = under t ls ++ facts_from (suc t) n ls

-- the facts, by number: under each tag in turn, each literal of an atom that matters, by code
unfoldable pub facts_of : Ground → TagTable → List FactOf
facts_of g table = filter (λ f. matters g table f.tag f.lit) (facts_from 0 (length table.tags) (lits_from 0 (length g.atoms)))

-- ---- a list of facts

-- that the literal is known under the tag is one of them
unfoldable pub is_fact : List FactOf → ℕ → Lit → Bool
is_fact fs t l = list_any (same_fact (record { lit = l; tag = t })) fs

-- the number of a fact: its place among them
unfoldable pub number : List FactOf → FactOf → ℕ
number fs f = position_or_len (same_fact f) fs
