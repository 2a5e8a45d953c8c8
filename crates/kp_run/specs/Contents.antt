-- What the input files of a command hold, each by the part that it plays.
use Rattle.std.specs.Prelude.{◌≡◌, ℕ, List, [], ◌∷◌, Option, Some, None, codes}
use Rattle.kp_outside.specs.Outside.{FileMap}
use Rattle.kp_run_outcome.specs.Ends.{AreHeld}
use Rattle.kp_words.specs.Asked.{Asked}
use Rattle.kp_words.specs.Forms.{form}
use Rattle.kp_words.specs.Command.{file_among, if_named}

-- the contents of the files that a command may read; of merges there is one, if it reads any
pub record Contents : Type 0 where
  pub domain : List ℕ
  pub problem : List ℕ
  pub merges : List (List ℕ)
  pub plan : List ℕ
  pub written : List ℕ

-- this is the content of a file; where there is none, it is empty
abbrev pub IsContent : Option FileMap → Option (List ℕ) → List ℕ → Type 0
IsContent held None content = content ≡ []
IsContent held (Some name) content = AreHeld held (name ∷ []) (content ∷ [])

-- the files of a command hold this, those that stand under these names; of all others it has nothing
pub record AreContentsUnder (names : List (List ℕ)) (held : Option FileMap) (c : Asked) (t : Contents) : Type 0 where
  pub domain : IsContent held (file_among names c (codes "D")) t.domain
  pub problem : IsContent held (file_among names c (codes "P")) t.problem
  pub merges : AreHeld held (if_named (file_among names c (codes "merges"))) t.merges
  pub plan : IsContent held (file_among names c (codes "PLAN")) t.plan
  pub written : IsContent held (file_among names c (codes "T")) t.written

-- the files that a command reads hold this
abbrev pub AreContents : Option FileMap → Asked → Contents → Type 0
AreContents held c t = AreContentsUnder (form c.verb).reads held c t
