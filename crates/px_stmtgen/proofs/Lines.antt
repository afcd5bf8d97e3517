-- Lines beside code.
use Rattle.std.proofs.Common.{◌≡◌, ◌≤◌, Bool, ℕ, zero, suc, ◌+◌, ◌-◌, List, [], ◌∷◌, ◌++◌, map, length, refl, sym, ap, ◌∙◌, append_assoc, length-append, arith}
use Rattle.std.specs.Prelude.{replicate}
use Rattle.px_walk.specs.Roses.{at_of}
use Rattle.px_typed_walk.specs.TypedView.{TypedRose}
use Rattle.px_regcode.specs.declared.instructions.Instr.{Instr}
use Rattle.px_stmtgen.specs.declared.layouts.Layout.{Layout}
use Rattle.px_stmtgen.specs.StatementCode.{in_turn_code, statement_code}
use Rattle.px_stmtgen.specs.Layouts.{ending_code}
use Rattle.px_stmtgen.specs.FunctionCode.{prologue, zeros, lines_in_turn, body_start, function_lines}

replicate_end : {A : Type 0} (k : ℕ) (x : A) → replicate k x ++ x ∷ [] ≡ replicate (suc k) x
replicate_end zero x = refl
replicate_end (suc k) x = ap (λ xs. x ∷ xs) (replicate_end k x)

next_is : (k : ℕ) → suc k ≡ k + 1
next_is k = omega arith

pub one_line_more : (before now : List ℕ) (k line : ℕ) → now ≡ before ++ replicate k line → now ++ line ∷ [] ≡ before ++ replicate (k + 1) line
one_line_more before now k line is =
    ap (λ xs. xs ++ line ∷ []) is ∙ append_assoc before (replicate k line) (line ∷ []) ∙ ap (λ xs. before ++ xs) (replicate_end k line ∙ ap (λ n. replicate n line) (next_is k))

length_replicate : (k line : ℕ) → length (replicate k line) ≡ k
length_replicate zero line = refl
length_replicate (suc k) line = ap suc (length_replicate k line)

-- The code so far, with that of the statements that are left, is the whole, and so are the lines.
pub record Together (l : Layout) (all rest : List TypedRose) (code_before : List Instr) (lines_before : List ℕ) (code : List Instr) (lines : List ℕ) : Type 0 where
  pub code_is : code ++ in_turn_code (map (statement_code l) rest) (length code) ≡ code_before ++ in_turn_code (map (statement_code l) all) (length code_before)
  pub lines_are : lines ++ lines_in_turn l rest (length code) ≡ lines_before ++ lines_in_turn l all (length code_before)
  pub same : length lines ≡ length code

pub together_next : (l : Layout) (all : List TypedRose) (tree : TypedRose) (rest_before rest : List TypedRose) (code_before : List Instr) (lines_before : List ℕ)
    (code code_after : List Instr) (lines lines_after : List ℕ)
    → Together l all rest_before code_before lines_before code lines → rest_before ≡ tree ∷ rest
    → code_after ≡ code ++ statement_code l tree (length code)
    → lines_after ≡ lines ++ replicate (length (statement_code l tree (length code))) (at_of tree).line
    → Together l all rest code_before lines_before code_after lines_after
together_next l all tree rest_before rest code_before lines_before code code_after lines lines_after t is code_is lines_are =
    let made = statement_code l tree (length code) in
    let line = (at_of tree).line in
    let others = map (statement_code l) rest in
    let len : length code_after ≡ length code + length made = ap length code_is ∙ length-append code made in
    let lines_len : length lines_after ≡ length lines + length made =
    ap length lines_are ∙ length-append lines (replicate (length made) line) ∙ ap (λ n. length lines + n) (length_replicate (length made) line) in
    record {
      code_is =
          ap (λ n. code_after ++ in_turn_code others n) len ∙ ap (λ xs. xs ++ in_turn_code others (length code + length made)) code_is
          ∙ append_assoc code made (in_turn_code others (length code + length made))
          ∙ sym (ap (λ ts. code ++ in_turn_code (map (statement_code l) ts) (length code)) is) ∙ t.code_is;
      lines_are =
          ap (λ n. lines_after ++ lines_in_turn l rest n) len ∙ ap (λ xs. xs ++ lines_in_turn l rest (length code + length made)) lines_are
          ∙ append_assoc lines (replicate (length made) line) (lines_in_turn l rest (length code + length made))
          ∙ sym (ap (λ ts. lines ++ lines_in_turn l ts (length code)) is) ∙ t.lines_are;
      same = omega (arith, len, lines_len, t.same);
    }

-- ---- a function

lines_length : (l : Layout) (trees : List TypedRose) (pc : ℕ) → length (lines_in_turn l trees pc) ≡ length (in_turn_code (map (statement_code l) trees) pc)
lines_length l [] pc = refl
lines_length l (tree ∷ trees) pc =
    let made = statement_code l tree pc in
    let others = in_turn_code (map (statement_code l) trees) (pc + length made) in
    let rest = lines_length l trees (pc + length made) in
    let first = length-append (replicate (length made) (at_of tree).line) (lines_in_turn l trees (pc + length made)) in
    let ones = length_replicate (length made) (at_of tree).line in
    let second = length-append made others in
    omega (arith, rest, first, ones, second)

-- How many lines there are when the statements are done, and when the end is.
pub record Lined (l : Layout) (line : ℕ) (second third last : List Instr) (before after : List ℕ) (body : List TypedRose) : Type 0 where
  pub first_are : before ≡ replicate (length second) line
  pub same : length after ≡ length third
  pub missing : length last - length after ≡ length (ending_code l l.gives)
  pub enough : length after ≤ length last

pub lined : (l : Layout) (line : ℕ) (body : List TypedRose) (second third last : List Instr) (none before after : List ℕ)
    → third ≡ second ++ in_turn_code (map (statement_code l) body) (length second) → last ≡ third ++ ending_code l l.gives
    → none ≡ [] → before ≡ none ++ replicate (length second - length none) line → after ≡ before ++ lines_in_turn l body (length second)
    → Lined l line second third last before after body
lined l line body second third last none before after t e nothing b a =
    let empty : length none ≡ 0 = ap length nothing in
    let count : length second - length none ≡ length second = omega (arith, empty) in
    let first : before ≡ replicate (length second) line = b ∙ ap (λ xs. xs ++ replicate (length second - length none) line) nothing ∙ ap (λ n. replicate n line) count in
    let first_length : length before ≡ length second = ap length first ∙ length_replicate (length second) line in
    let turns = in_turn_code (map (statement_code l) body) (length second) in
    let third_length : length third ≡ length second + length turns = ap length t ∙ length-append second turns in
    let after_length : length after ≡ length before + length (lines_in_turn l body (length second)) = ap length a ∙ length-append before (lines_in_turn l body (length second)) in
    let both = lines_length l body (length second) in
    let last_length : length last ≡ length third + length (ending_code l l.gives) = ap length e ∙ length-append third (ending_code l l.gives) in
    record {
      first_are = first;
      same = omega (arith, first_length, third_length, after_length, both);
      missing = omega (arith, first_length, third_length, after_length, both, last_length);
      enough = omega (arith, first_length, third_length, after_length, both, last_length);
    }

pub whole_lines : (l : Layout) (line params : ℕ) (swallows : Bool) (body : List TypedRose) (second third last : List Instr) (before after all : List ℕ)
    → second ≡ prologue l swallows ++ zeros params (l.variables - params) → Lined l line second third last before after body
    → after ≡ before ++ lines_in_turn l body (length second) → all ≡ after ++ replicate (length last - length after) line
    → all ≡ function_lines l line params swallows body
whole_lines l line params swallows body second third last before after all front lined a w =
    let start : length second ≡ body_start l params swallows = ap length front in
    let end = replicate (length (ending_code l l.gives)) line in
    w ∙ ap (λ n. after ++ replicate n line) lined.missing ∙ ap (λ xs. xs ++ end) a
    ∙ append_assoc before (lines_in_turn l body (length second)) end
    ∙ ap (λ xs. xs ++ (lines_in_turn l body (length second) ++ end)) lined.first_are
    ∙ ap (λ n. replicate n line ++ (lines_in_turn l body n ++ end)) start
