-- Each text has one outcome: its cutting, or its bad byte.
use Rattle.std.proofs.Common.{◌≡◌, ℕ, List, Result, Ok, Err, ◌⊎◌, inl, inr}
use Rattle.kp_lex.specs.declared.token.Token.{Token}
use Rattle.kp_lex.specs.Cutting.{Cut, BadAt}
use Rattle.kp_lex.specs.Scanning.{cut}
use Rattle.kp_lex.proofs.Exact.{Tells, cut_tells, cut_is, bad_is}

told : (text : List ℕ) (o : Result (List Token) ℕ) → Tells 0 text o → ((ts : List Token) × Cut 0 text ts) ⊎ ((i : ℕ) × BadAt 0 text i)
told text (Ok ts) h = inl (ts, h)
told text (Err i) h = inr (i, h)

pub some : (text : List ℕ) → ((ts : List Token) × Cut 0 text ts) ⊎ ((i : ℕ) × BadAt 0 text i)
some text = told text (cut 0 text) (cut_tells 0 text)

pub never_both : {text : List ℕ} (ts : List Token) (i : ℕ) → Cut 0 text ts → BadAt 0 text i → ⊥
never_both {text} ts i h b =
    let one : cut 0 text ≡ Ok ts = cut_is h in
    let other : cut 0 text ≡ Err i = bad_is b in
    absurd (cc (one, other))

pub one_cutting : {text : List ℕ} (ts us : List Token) → Cut 0 text ts → Cut 0 text us → ts ≡ us
one_cutting {text} ts us h k =
    let one : cut 0 text ≡ Ok ts = cut_is h in
    let other : cut 0 text ≡ Ok us = cut_is k in
    cc (one, other)

pub one_bad_byte : {text : List ℕ} (i j : ℕ) → BadAt 0 text i → BadAt 0 text j → i ≡ j
one_bad_byte {text} i j h k =
    let one : cut 0 text ≡ Err i = bad_is h in
    let other : cut 0 text ≡ Err j = bad_is k in
    cc (one, other)
