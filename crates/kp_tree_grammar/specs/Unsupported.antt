-- Tokens that are known and not supported, by the place where they are told apart from errors of syntax: there they stand first.
use Rattle.std.specs.Prelude.{Bool, true, false}
use Rattle.kp_tree_grammar.specs.declared.symbol.Symbol.{Symbol}
use Rattle.kp_tree_grammar.specs.declared.symbol.Symbol.TheVariants as symbols

-- at the head of a section of a domain
abbrev pub not_section : Symbol → Bool
not_section symbols.Functions = true
not_section symbols.Derived = true
not_section symbols.Axiom = true
not_section symbols.DurativeAction = true
not_section symbols.Constraints = true
not_section symbols.Process = true
not_section symbols.Event = true
not_section _ = false

-- behind the parts of an action
abbrev pub not_part : Symbol → Bool
not_part symbols.Observe = true
not_part symbols.Vars = true
not_part _ = false

-- at the head of a section of a problem
abbrev pub not_given : Symbol → Bool
not_given symbols.Metric = true
not_given symbols.Constraints = true
not_given symbols.Length = true
not_given _ = false

-- at the head of a condition
abbrev pub not_cond : Symbol → Bool
not_cond symbols.Or = true
not_cond symbols.Imply = true
not_cond symbols.Exists = true
not_cond symbols.Forall = true
not_cond symbols.Preference = true
not_cond _ = false

-- at the head of a goal
abbrev pub not_goal : Symbol → Bool
not_goal symbols.Or = true
not_goal symbols.Imply = true
not_goal symbols.Exists = true
not_goal symbols.Forall = true
not_goal symbols.Preference = true
not_goal symbols.Equal = true
not_goal _ = false

-- at the head of an effect
abbrev pub not_effect : Symbol → Bool
not_effect symbols.OneOf = true
not_effect symbols.Or = true
not_effect symbols.Probabilistic = true
not_effect symbols.Increase = true
not_effect symbols.Decrease = true
not_effect symbols.Assign = true
not_effect symbols.ScaleUp = true
not_effect symbols.ScaleDown = true
not_effect _ = false

-- at the head of an item of `:init`
abbrev pub not_item : Symbol → Bool
not_item symbols.Forall = true
not_item symbols.Equal = true
not_item _ = false

-- at the head of a literal of `oneof` or `or`
abbrev pub not_lit : Symbol → Bool
not_lit symbols.And = true
not_lit symbols.Or = true
not_lit symbols.OneOf = true
not_lit symbols.Forall = true
not_lit _ = false
