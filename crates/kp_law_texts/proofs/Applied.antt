-- Application, written without brackets round what stands last.

infixr 0 ◌$◌
abbrev pub ◌$◌ : {A B : Type 0} → (A → B) → A → B
f $ x = f x
