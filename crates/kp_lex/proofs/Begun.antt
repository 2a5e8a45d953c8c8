-- The beginning of a cutting up to a bracket that is too deep.
use Rattle.std.proofs.Common.{◌≡◌, ℕ, zero, suc, ◌+◌, ◌≤◌, ◌<◌, List, [], ◌∷◌, ◌++◌, length, take, Option, Some, None, Result, Ok, Err, MatchResult, IfSome, refl, sym, ap, subst, ◌∙◌, append_assoc, append-nil, length-append, arith}
use Rattle.std.proofs.lemmas.List.{take_at}
use Rattle.kp_base.specs.declared.refused.Part.{Part}
use Rattle.kp_base.specs.declared.refused.Stop.{Stop}
use Rattle.kp_lex.specs.declared.token.TokenKind.{TokenKind}
use Rattle.kp_lex.specs.declared.token.TokenKind.TheVariants as kinds
use Rattle.kp_lex.specs.declared.token.Token.{Token}
use Rattle.kp_lex.specs.declared.cutting.Beginning.{Beginning}
use Rattle.kp_lex.specs.Bytes.{in_line}
use Rattle.kp_lex.specs.Cutting.{IsLongest, EndsRunOf, spanned, Cut, at_end, past_blank, past_comment, a_token}
use Rattle.kp_lex.specs.Levels.{behind, levels_left, up_to, reach, BeginsCutting}
use Rattle.kp_lex.specs.Answers.{IsRightWithin}
use Rattle.kp_lex.specs.Scanning.{with, cut, Fails, behind_all, Begins}
use Rattle.kp_lex.proofs.Exact.{Tells, cut_tells}
use Rattle.kp_lex.proofs.Spans.{at_most}
use Rattle.kp_lex.proofs.Answered.{right}

-- ---- levels

given : (o : Option ℕ) → levels_left o None (λ (n : ℕ). Some n) ≡ o
given None = refl
given (Some n) = refl

by_left : {A : Type 0} (o : Option ℕ) (ts : List Token) (over : A) (f : ℕ → A) (g : A) (n : ℕ) → levels_left o None (λ (m : ℕ). behind_all m ts) ≡ Some n → ((m : ℕ) → behind_all m ts ≡ Some n → f m ≡ g) → levels_left o over f ≡ g
by_left None ts over f g n e h = absurd cc
by_left (Some m) ts over f g n e h = h m e

-- what is left behind one more token
pub behind_on : (d : ℕ) (ts : List Token) (t : Token) (n : ℕ) → behind_all d ts ≡ Some n → behind_all d (ts ++ t ∷ []) ≡ behind n t.kind
behind_on d [] t n e = let same : d ≡ n = cc in given (behind d t.kind) ∙ ap (λ (m : ℕ). behind m t.kind) same
behind_on d (u ∷ ts) t n e = by_left (behind d u.kind) ts None (λ (m : ℕ). behind_all m (ts ++ t ∷ [])) (behind n t.kind) n e (λ m h. behind_on m ts t n h)

kept_on : (d : ℕ) (ts us : List Token) (n : ℕ) → behind_all d ts ≡ Some n → up_to d (ts ++ us) ≡ ts ++ up_to n us
kept_on d [] us n e = let same : d ≡ n = cc in ap (λ (m : ℕ). up_to m us) same
kept_on d (t ∷ ts) us n e = ap (λ (xs : List Token). t ∷ xs) (by_left (behind d t.kind) ts [] (λ (m : ℕ). up_to m (ts ++ us)) (ts ++ up_to n us) n e (λ m h. kept_on m ts us n h))

reach_on : (d : ℕ) (ts us : List Token) (end n : ℕ) → behind_all d ts ≡ Some n → reach d (ts ++ us) end ≡ reach n us end
reach_on d [] us end n e = let same : d ≡ n = cc in ap (λ (m : ℕ). reach m us end) same
reach_on d (t ∷ ts) us end n e = by_left (behind d t.kind) ts t.to (λ (m : ℕ). reach m (ts ++ us) end) (reach n us end) n e (λ m h. reach_on m ts us end n h)

-- nothing is kept behind a bracket that is too deep
stays_none : (d : ℕ) (ts us : List Token) → behind_all d ts ≡ None → (behind_all d (ts ++ us) ≡ None) × (up_to d (ts ++ us) ≡ up_to d ts) × ((end : ℕ) → reach d (ts ++ us) end ≡ reach d ts end)
stays_none d [] us e = absurd cc
stays_none d (t ∷ ts) us e = go (λ m. stays_none m ts us) (behind d t.kind) e where
  go : ((m : ℕ) → behind_all m ts ≡ None → (behind_all m (ts ++ us) ≡ None) × (up_to m (ts ++ us) ≡ up_to m ts) × ((end : ℕ) → reach m (ts ++ us) end ≡ reach m ts end))
      → (o : Option ℕ) → levels_left o None (λ (m : ℕ). behind_all m ts) ≡ None
      → (levels_left o None (λ (m : ℕ). behind_all m (ts ++ us)) ≡ None) × (◌≡◌ {A = List Token} (t ∷ levels_left o [] (λ (m : ℕ). up_to m (ts ++ us))) (t ∷ levels_left o [] (λ (m : ℕ). up_to m ts)))
      × ((end : ℕ) → levels_left o t.to (λ (m : ℕ). reach m (ts ++ us) end) ≡ levels_left o t.to (λ (m : ℕ). reach m ts end))
  go more None h = (refl, refl, λ end. refl)
  go more (Some m) h = let r = more m h in (r.0, ap (λ (xs : List Token). t ∷ xs) r.1, r.2)

-- ---- what is kept of the tokens that were seen

pub record Seen (levels end : ℕ) (tokens : List Token) (left : Option ℕ) (to : ℕ) (seen : List Token) : Type 0 where
  pub left_is : left ≡ behind_all levels seen
  pub kept : tokens ≡ up_to levels seen
  pub ends : to ≡ reach levels seen end

one_kept : (o : Option ℕ) (t : Token) → ◌≡◌ {A = List Token} (t ∷ levels_left o [] (λ (n : ℕ). [])) (t ∷ [])
one_kept None t = refl
one_kept (Some n) t = refl

pub seen_more : (levels end : ℕ) (tokens : List Token) (n : ℕ) (to : ℕ) (seen : List Token) (t : Token) → Seen levels end tokens (Some n) to seen
    → Seen levels end (tokens ++ t ∷ []) (behind n t.kind) (levels_left (behind n t.kind) t.to (λ (m : ℕ). to)) (seen ++ t ∷ [])
seen_more levels end tokens n to seen t s =
    let before : behind_all levels seen ≡ Some n = sym s.left_is in
    let all : up_to levels (seen ++ []) ≡ seen ++ [] = kept_on levels seen [] n before in
    let whole : tokens ≡ seen = s.kept ∙ (rw (append-nil seen) at all) in
    let far : reach levels (seen ++ []) end ≡ end = reach_on levels seen [] end n before in
    let to_end : to ≡ end = s.ends ∙ (rw (append-nil seen) at far) in
    record {
      left_is = sym (behind_on levels seen t n before);
      kept = ap (λ (ts : List Token). ts ++ t ∷ []) whole ∙ sym (kept_on levels seen (t ∷ []) n before ∙ ap (λ (ts : List Token). seen ++ ts) (one_kept (behind n t.kind) t));
      ends = ap (λ (e : ℕ). levels_left (behind n t.kind) t.to (λ (m : ℕ). e)) to_end ∙ sym (reach_on levels seen (t ∷ []) end n before);
    }

pub seen_past : (levels end : ℕ) (tokens : List Token) (to : ℕ) (seen : List Token) (t : Token) → Seen levels end tokens None to seen → Seen levels end tokens None to (seen ++ t ∷ [])
seen_past levels end tokens to seen t s =
    let r = stays_none levels seen (t ∷ []) (sym s.left_is) in
    record { left_is = sym r.0; kept = s.kept ∙ sym r.1; ends = s.ends ∙ sym (r.2 end) }

enough_by : (d : ℕ) (t : Token) (ts : List Token) (o : Option ℕ) (k : TokenKind) → behind d k ≡ o → length (t ∷ ts) ≤ d → ((n : ℕ) → length ts ≤ n → up_to n ts ≡ ts) → levels_left o [] (λ (n : ℕ). up_to n ts) ≡ ts
enough_by zero t ts o k e le h = absurd (omega (arith, le))
enough_by (suc d) t ts o kinds.Left e le h = rw (← e) (h d (omega (arith, le)))
enough_by (suc d) t ts o kinds.Right e le h = rw (← e) (h (suc (suc d)) (omega (arith, le)))
enough_by (suc d) t ts o _ e le h = rw (← e) (h (suc d) (omega (arith, le)))

enough : (d : ℕ) (ts : List Token) → length ts ≤ d → up_to d ts ≡ ts
enough d [] le = refl
enough d (t ∷ ts) le = ap (λ (us : List Token). t ∷ us) (enough_by d t ts (behind d t.kind) t.kind refl le (λ n less. enough n ts less))

-- ---- a cutting's beginning is the cutting of the text up to there

shorter : (w u v : List ℕ) → IsLongest w (w ++ (u ++ v)) → IsLongest w (w ++ u)
shorter w u v long k x rest t is = long k x (rest ++ v) t (sym (append_assoc w u v) ∙ ap (λ (l : List ℕ). l ++ v) is ∙ append_assoc x rest v)

ends_front : (u v : List ℕ) → EndsRunOf in_line (u ++ v) → EndsRunOf in_line u
ends_front [] v h = tt
ends_front (b ∷ u) v h = h

record Split (d at : ℕ) (text : List ℕ) (ts : List Token) : Type 0 where
  pub front : List ℕ
  pub back : List ℕ
  pub is : text ≡ front ++ back
  pub len : at + length front ≡ reach d ts (at + length text)
  pub begun : Cut at front (up_to d ts)

split : (d : ℕ) {at : ℕ} {text : List ℕ} {ts : List Token} → Cut at text ts → Split d at text ts
split d at_end = record { front = []; back = []; is = refl; len = refl; begun = at_end }
split d (past_blank {at = at} {b = b} {bs = bs} {ts = ts} e h) =
    let s = split d h in
    let more : at + length (b ∷ s.front) ≡ at + 1 + length s.front = omega arith in
    let end : at + 1 + length bs ≡ at + length (b ∷ bs) = omega arith in
    record {
      front = b ∷ s.front;
      back = s.back;
      is = ap (λ (l : List ℕ). b ∷ l) s.is;
      len = more ∙ s.len ∙ ap (reach d ts) end;
      begun = past_blank e s.begun;
    }
split d (past_comment {at = at} {s = s} w rest {ts = ts} e a l h) =
    let r = split d h in
    let more : at + length (s ∷ (w ++ r.front)) ≡ at + suc (length w) + length r.front = omega (arith, length-append w r.front) in
    let end : at + suc (length w) + length rest ≡ at + length (s ∷ (w ++ rest)) = omega (arith, length-append w rest) in
    record {
      front = s ∷ (w ++ r.front);
      back = r.back;
      is = ap (λ (l : List ℕ). s ∷ l) (ap (λ (l : List ℕ). w ++ l) r.is ∙ sym (append_assoc w r.front r.back));
      len = more ∙ r.len ∙ ap (reach d ts) end;
      begun = past_comment w r.front e a (ends_front r.front r.back (subst (λ (b : List ℕ). EndsRunOf in_line b) r.is l)) r.begun;
    }
split d (a_token {at = at} {k = k} {w = w} {rest = rest} {ts = ts} t long h) = go (λ n. split n h) (behind d k) refl where
  go : ((n : ℕ) → Split n (at + length w) rest ts) → (o : Option ℕ) → behind d k ≡ o → Split d at (w ++ rest) (spanned k at (length w) ∷ ts)
  go deeper None e = record {
    front = w;
    back = rest;
    is = refl;
    len = rw e refl;
    begun = rw e (subst (λ (l : List ℕ). Cut at l (spanned k at (length w) ∷ [])) (append-nil w) (a_token t (shorter w [] rest long) at_end));
  }
  go deeper (Some n) e =
      let s = deeper n in
      let more : at + length (w ++ s.front) ≡ at + length w + length s.front = omega (arith, length-append w s.front) in
      let end : at + length w + length rest ≡ at + length (w ++ rest) = omega (arith, length-append w rest) in
      record {
        front = w ++ s.front;
        back = s.back;
        is = ap (λ (l : List ℕ). w ++ l) s.is ∙ sym (append_assoc w s.front s.back);
        len = rw e (more ∙ s.len ∙ ap (reach n ts) end);
        begun = rw e (a_token t (shorter w s.front s.back (subst (λ (l : List ℕ). IsLongest w (w ++ l)) s.is long)) s.begun);
      }

from_zero : (n end levels : ℕ) (ts : List Token) → 0 + n ≡ reach levels ts (0 + end) → n ≡ reach levels ts end
from_zero n end levels ts e =
    let front : n ≡ 0 + n = omega arith in
    let back : 0 + end ≡ end = omega arith in
    front ∙ e ∙ ap (reach levels ts) back

-- ---- what the loop gives

module _ (levels : ℕ) (text : List ℕ) (b : Beginning) (g : Begins levels text b) where
  is_cut : Cut 0 text g.whole
  is_cut = subst (λ (o : Result (List Token) ℕ). Tells 0 text o) g.all (cut_tells 0 text)

  pub begun_is : BeginsCutting levels text b
  begun_is =
      let s = split levels is_cut in
      let len : length s.front ≡ b.to = from_zero (length s.front) (length text) levels g.whole s.len ∙ sym g.end in
      let front : take b.to text ≡ s.front = ap (take b.to) s.is ∙ take_at s.front s.back b.to len in
      let begun : Cut 0 (take b.to text) (up_to levels g.whole) = subst (λ (bs : List ℕ). Cut 0 bs (up_to levels g.whole)) (sym front) s.begun in
      record {
        whole = g.whole;
        cut = is_cut;
        kept = g.kept;
        end = g.end;
        within = g.within;
        begun = subst (λ (ts : List Token). Cut 0 (take b.to text) ts) (sym g.kept) begun;
      }

  -- with as many levels as bytes no bracket is too deep
  pub all_is : length text ≤ levels → cut 0 text ≡ Ok b.tokens
  all_is many = g.all ∙ ap (λ (ts : List Token). Ok ts) (sym (g.kept ∙ enough levels g.whole (omega (arith, at_most g.whole is_cut, many))))

pub within_right : (part : Part) (levels : ℕ) (text : List ℕ) (r : Result Beginning Stop) → MatchResult r (λ b. Begins levels text b) (λ e. Fails part text e (cut 0 text)) → IsRightWithin part levels text r
within_right part levels text (Ok b) g = begun_is levels text b g
within_right part levels text (Err e) h = right part text (Err e) h

-- a token takes or gives back one level at most
pub one_less_is : (d : ℕ) (k : TokenKind) (at n : ℕ) (levels : ℕ) → d ≤ levels + at → 0 < n → IfSome (behind d k) (λ m. m ≤ levels + (at + n))
one_less_is zero kinds.Left at n levels h k = tt
one_less_is (suc d) kinds.Left at n levels h k = omega (arith, h, k)
one_less_is d kinds.Right at n levels h k = omega (arith, h, k)
one_less_is d _ at n levels h k = omega (arith, h, k)

-- what was within a bound is within a later one
pub later : (o : Option ℕ) (levels at n : ℕ) → IfSome o (λ m. m ≤ levels + at) → IfSome o (λ m. m ≤ levels + (at + n))
later None levels at n h = tt
later (Some m) levels at n h = omega (arith, h)

pub end_within : (o : Option ℕ) (here to most : ℕ) → here ≤ most → to ≤ most → levels_left o here (λ (n : ℕ). to) ≤ most
end_within None here to most h k = h
end_within (Some n) here to most h k = k

-- ---- a step of the loop

pub record Goes (levels end at : ℕ) (rest total : Result (List Token) ℕ) (tokens : List Token) (left : Option ℕ) (to : ℕ) : Type 0 where
  pub ends : to ≤ end
  pub few : IfSome left (λ m. m ≤ levels + at)
  pub so_far : (seen : List Token) × (Seen levels end tokens left to seen × (with seen rest ≡ total))

module _ (levels end at n : ℕ) (rest total : Result (List Token) ℕ) (tokens : List Token) (left : Option ℕ) (to : ℕ) (seen : List Token) (t : Token) (s : Seen levels end tokens left to seen) (so_far : with (seen ++ t ∷ []) rest ≡ total) (few : IfSome left (λ m. m ≤ levels + at)) (ends : to ≤ end) where
  -- the token is kept
  pub keeps : (d : ℕ) → left ≡ Some d → 0 < n → t.to ≤ end → Goes levels end (at + n) rest total (tokens ++ t ∷ []) (behind d t.kind) (levels_left (behind d t.kind) t.to (λ (m : ℕ). to))
  keeps d e some here = record {
    ends = end_within (behind d t.kind) t.to to end here ends;
    few = one_less_is d t.kind at n levels (subst (λ (o : Option ℕ). IfSome o (λ m. m ≤ levels + at)) e few) some;
    so_far = (seen ++ t ∷ [], (seen_more levels end tokens d to seen t (subst (λ (o : Option ℕ). Seen levels end tokens o to seen) e s), so_far));
  }

  -- it stands behind a bracket that is too deep
  pub passes : left ≡ None → Goes levels end (at + n) rest total tokens left to
  passes e = record {
    ends = ends;
    few = later left levels at n few;
    so_far = (seen ++ t ∷ [], (subst (λ (o : Option ℕ). Seen levels end tokens o to (seen ++ t ∷ [])) (sym e) (seen_past levels end tokens to seen t (subst (λ (o : Option ℕ). Seen levels end tokens o to seen) e s)), so_far));
  }

pub same_goes : {levels end at : ℕ} {rest total : Result (List Token) ℕ} {ts us : List Token} {o p : Option ℕ} {k n : ℕ} → us ≡ ts → p ≡ o → n ≡ k → Goes levels end at rest total ts o k → Goes levels end at rest total us p n
same_goes {levels} {end} {at} {rest} {total} {ts} {us} {o} {p} {k} {n} e f h g =
    subst (λ (xs : List Token). Goes levels end at rest total xs p n) (sym e) (subst (λ (q : Option ℕ). Goes levels end at rest total ts q n) (sym f) (subst (λ (m : ℕ). Goes levels end at rest total ts o m) (sym h) g))
