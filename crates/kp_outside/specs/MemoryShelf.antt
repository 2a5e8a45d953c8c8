-- A shelf in memory, as its callers see it.
use Rattle.std.specs.Prelude.{ℕ, List, [], refl}
use Rattle.std.specs.Coded.{Coded, code_by, coded×, coded_ℕ, coded_list}
use Rattle.std.specs.Ordering.{nat_cmp}
use Rattle.std.specs.Cmp.Lexicographic.{slice_cmp}
use Rattle.std.specs.FinMap as map
use Rattle.kp_outside.specs.Outside.{FileMap}

-- the content of each name, how many calls there were, which calls fail, and how many gets and puts failed
pub record Shelved : Type 0 where
  pub contents : FileMap
  pub calls : ℕ
  pub failing : List ℕ
  pub get_faults : ℕ
  pub put_faults : ℕ

-- nothing is held, and no call fails
abbrev pub new_shelf : Shelved
new_shelf = record { contents = map.empty; calls = 0; failing = []; get_faults = 0; put_faults = 0 }

-- it is stored as its fields; this says nothing of what it means
abbrev pub shelved_code : Coded Shelved
shelved_code =
    code_by (FileMap × (ℕ × (List ℕ × (ℕ × ℕ))))
    (coded× (map.code {R = slice_cmp nat_cmp} (coded_list coded_ℕ) (coded_list coded_ℕ)) (coded× coded_ℕ (coded× (coded_list coded_ℕ) (coded× coded_ℕ coded_ℕ))))
    (λ s. (s.contents, (s.calls, (s.failing, (s.get_faults, s.put_faults)))))
    (λ p. record { contents = p.0; calls = p.1.0; failing = p.1.1.0; get_faults = p.1.1.1.0; put_faults = p.1.1.1.1 })
    (λ _. refl)
