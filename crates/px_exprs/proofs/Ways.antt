-- Tokens that make a form behind the first ones of a list.
use Rattle.std.proofs.Common.{◌≡◌, ℕ, zero, suc, pos, ◌+◌, ◌≤◌, List, [], ◌∷◌, ◌++◌, length, take, Some, refl, sym, ap, ◌∙◌, subst, codes, arith}
use Rattle.std.proofs.lemmas.List.{length-append, length-take-le}
use Rattle.std.specs.Prelude.{slice_get}
use Rattle.px_lexer.specs.declared.spelling.Operator.{Operator}
use Rattle.px_lexer.specs.declared.token_list.TokenKind.TheVariants as kind
use Rattle.px_lexer.specs.Terminals.{Terminal, IsOperator, IsName}
use Rattle.px_exprs.specs.Readings.{Form, HasWay, IsReached}
use Rattle.px_exprs.proofs.Agreement.{agree_take}

-- tokens without a place of their own
abbrev pub sign_token : Operator → Terminal
sign_token o = record { kind = kind.Operator o; at = record { line = 0; column = 0 }; spelling = [] }

abbrev pub word_token : List ℕ → Terminal
word_token name = record { kind = kind.Name; at = record { line = 0; column = 0 }; spelling = name }

abbrev pub digit_token : Terminal
digit_token = record { kind = kind.Number (pos 1); at = record { line = 0; column = 0 }; spelling = codes "1" }

length-behind : (ts : List Terminal) (k : ℕ) (more : List Terminal) → k ≤ length ts → length (take k ts ++ more) ≡ k + length more
length-behind ts k more le = length-append (take k ts) more ∙ ap (λ n. n + length more) (length-take-le k ts le)

pub stands_behind : (ts : List Terminal) (k : ℕ) (more : List Terminal) (i m : ℕ) → m ≡ k + i → k ≤ length ts → slice_get (take k ts ++ more) m ≡ slice_get more i
stands_behind ts zero more i m e le = ap (slice_get more) (let f : m ≡ i = omega (arith, e) in f)
stands_behind [] (suc k) more i m e le = absurd (omega (arith, le))
stands_behind (t ∷ ts) (suc k) more i zero e le = absurd (omega (arith, e))
stands_behind (t ∷ ts) (suc k) more i (suc m) e le = stands_behind ts k more i m (omega (arith, e)) (omega (arith, le))

pub sign_behind : (ts : List Terminal) (k : ℕ) (more : List Terminal) (i m : ℕ) (o : Operator) → m ≡ k + i → k ≤ length ts → slice_get more i ≡ Some (sign_token o) → IsOperator (take k ts ++ more) m o
sign_behind ts k more i m o e le there = record { token = sign_token o; stands = stands_behind ts k more i m e le ∙ there; kind = refl }

pub word_behind : (ts : List Terminal) (k : ℕ) (more : List Terminal) (i m : ℕ) (name : List ℕ) → m ≡ k + i → k ≤ length ts → slice_get more i ≡ Some (word_token name)
    → IsName (take k ts ++ more) m name
word_behind ts k more i m name e le there = record { token = word_token name; stands = stands_behind ts k more i m e le ∙ there; kind = refl; spelled = refl }

pub way_by : {A : Type 0} (X : Form A) (ts : List Terminal) (from k : ℕ) (more : List Terminal) (tree : A) (depth : ℕ) → k ≤ length ts
    → X (take k ts ++ more) from tree depth (k + length more) → HasWay X ts from k
way_by X ts from k more tree depth le d = record {
  tokens = take k ts ++ more;
  same = agree_take k ts more le;
  long = omega (arith, length-behind ts k more le);
  tree = tree;
  depth = depth;
  derived = subst (X (take k ts ++ more) from tree depth) (sym (length-behind ts k more le)) d;
}

pub reached_by : {A : Type 0} (X : Form A) (ts : List Terminal) (from k room : ℕ) (more : List Terminal) (tree : A) (depth : ℕ) → k ≤ length ts → depth ≤ room
    → X (take k ts ++ more) from tree depth (k + length more)
    → IsReached X ts from k room
unfolding way_by
reached_by X ts from k room more tree depth le shallow d = IsReached.reached (record { way = way_by X ts from k more tree depth le d; shallow = shallow })

-- what goes on to one form goes on to another
pub reached_through : {A B : Type 0} (X : Form A) (Y : Form B) (ts : List Terminal) (i from k room more : ℕ) → from ≤ i → i ≤ k
    → ((n : ℕ) → i ≤ n → n ≤ k → (w : HasWay X ts i n) → (v : HasWay Y ts from n) × (w.depth ≤ room → v.depth ≤ more)) → IsReached X ts i k room → IsReached Y ts from k more
reached_through X Y ts i from k room more le forward through (IsReached.reached s) =
    let v = through k forward (omega arith) s.way in
    IsReached.reached (record { way = v.0; shallow = v.1 s.shallow })
reached_through X Y ts i from k room more le forward through (IsReached.behind_sizeof j e at sizeof s w) =
    let v = through j at (omega (arith, e)) s.way in
    let longer = through k forward (omega arith) w in
    IsReached.behind_sizeof j e (omega (arith, le, at)) sizeof (record { way = v.0; shallow = v.1 s.shallow }) longer.0
