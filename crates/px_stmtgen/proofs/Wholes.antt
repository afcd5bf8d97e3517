-- The code of prints and of functions, by the pieces in which it is appended.
use Rattle.std.proofs.Common.{◌≡◌, ℕ, zero, suc, ◌+◌, ◌-◌, ◌<◌, Bool, List, [], ◌∷◌, ◌++◌, map, get_or, length, refl, sym, ap, ◌∙◌, append_assoc, arith}
use Rattle.std.specs.Prelude.{Result, Ok, Err, OnOk, Some, slice_get, option_map}
use Rattle.std.proofs.lemmas.Option.{slice_get-get_or}
use Rattle.px_tree.specs.declared.typed_trees.TypedTree.{TypedTree}
use Rattle.px_walk.specs.Roses.{gathered}
use Rattle.px_typed_walk.specs.TypedView.{TypedRose, rose_of_typed}
use Rattle.px_regcode.specs.declared.operands.Register.{Register}
use Rattle.px_regcode.specs.declared.instructions.Instr.{Instr}
use Rattle.px_regcode.specs.declared.instructions.Instr.TheVariants as instr
use Rattle.px_stmtgen.specs.declared.layouts.Layout.{Layout}
use Rattle.px_stmtgen.specs.Layouts.{registers_from, drops, ending_code}
use Rattle.px_stmtgen.specs.StatementCode.{arguments_code, print_code, in_turn_code, statement_code}
use Rattle.px_stmtgen.specs.FunctionCode.{prologue, zeros, function_code}
use Rattle.px_stmtgen.proofs.PartCode.{count_gathered}

pub printed : {E : Type 0} (r : Result (Unit {0}) E) (l : Layout) (trees : List TypedRose) (before first second after : List Instr) (registers : List Register) (count : ℕ)
    → first ≡ before ++ arguments_code l l.variables (gathered trees) (length before) → registers ≡ registers_from l.variables count → count ≡ length trees
    → second ≡ first ++ instr.Print registers ∷ [] → OnOk r (after ≡ second ++ drops l.variables count)
    → OnOk r (after ≡ before ++ print_code l (gathered trees) (length before))
printed (Ok x) l trees before first second after registers count f g n s e =
    let a = arguments_code l l.variables (gathered trees) (length before) in
    let v = l.variables in
    e ∙ ap (λ xs. xs ++ drops v count) s ∙ append_assoc first (instr.Print registers ∷ []) (drops v count)
    ∙ ap (λ xs. xs ++ (instr.Print registers ∷ drops v count)) f ∙ append_assoc before a (instr.Print registers ∷ drops v count)
    ∙ ap (λ rs. before ++ (a ++ (instr.Print rs ∷ drops v count))) g
    ∙ ap (λ m. before ++ (a ++ (instr.Print (registers_from v m) ∷ drops v m))) (n ∙ sym (count_gathered trees))
printed (Err x) l trees before first second after registers count f g n s e = tt

-- what stands before the statements
pub front_is : (l : Layout) (params : ℕ) (swallows : Bool) (empty first second : List Instr) (count : ℕ)
    → empty ≡ [] → first ≡ empty ++ prologue l swallows → count ≡ l.variables - params → second ≡ first ++ zeros params count
    → second ≡ prologue l swallows ++ zeros params (l.variables - params)
front_is l params swallows empty first second count none f n s =
    s ∙ ap (λ xs. xs ++ zeros params count) (f ∙ ap (λ xs. xs ++ prologue l swallows) none) ∙ ap (λ m. prologue l swallows ++ zeros params m) n

pub whole_function : (l : Layout) (params : ℕ) (swallows : Bool) (body : List TypedRose) (empty first second third last : List Instr) (count : ℕ)
    → empty ≡ [] → first ≡ empty ++ prologue l swallows → count ≡ l.variables - params → second ≡ first ++ zeros params count
    → third ≡ second ++ in_turn_code (map (statement_code l) body) (length second) → last ≡ third ++ ending_code l l.gives
    → last ≡ function_code l params swallows body
unfolding function_code
whole_function l params swallows body empty first second third last count none f n s t e =
    let front = prologue l swallows ++ zeros params (l.variables - params) in
    let turns = in_turn_code (map (statement_code l) body) in
    let end = ending_code l l.gives in
    let is_front : second ≡ front = s ∙ ap (λ xs. xs ++ zeros params count) (f ∙ ap (λ xs. xs ++ prologue l swallows) none) ∙ ap (λ m. prologue l swallows ++ zeros params m) n in
    let from : length front ≡ 0 + length front = omega arith in
    e ∙ ap (λ xs. xs ++ end) t ∙ append_assoc second (turns (length second)) end
    ∙ ap (λ xs. xs ++ (turns (length xs) ++ end)) is_front
    ∙ ap (λ m. front ++ (turns m ++ end)) from

mapped_get : {A B : Type 0} (f : A → B) (xs : List A) (k : ℕ) → slice_get (map f xs) k ≡ option_map f (slice_get xs k)
mapped_get f [] k = refl
mapped_get f (x ∷ xs) zero = refl
mapped_get f (x ∷ xs) (suc k) = mapped_get f xs k

-- a statement of a body
pub tree_there : (body : List TypedTree) (k : ℕ) (tree : TypedTree) → k < length body → tree ≡ get_or body k tree
    → slice_get (map rose_of_typed body) k ≡ Some (rose_of_typed tree)
tree_there body k tree within is =
    mapped_get rose_of_typed body k ∙ ap (option_map rose_of_typed) (slice_get-get_or body k tree within ∙ ap Some (sym is))
