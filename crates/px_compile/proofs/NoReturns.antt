-- In the code of a module that has types no `return` stands, since types refuse it there.
use Rattle.std.proofs.Common.{◌≡◌, ℕ, List, [], ◌∷◌, ◌++◌, Option, Some, None, Bool, true, false, refl, subst}
use Rattle.std.specs.Prelude.{◌||◌, map, take, drop, if◌then◌else◌, slice_get, Ok, Err}
use Rattle.px_base.specs.declared.refusals.Span.{Span}
use Rattle.px_base.specs.declared.refusals.Refusal.{Refusal}
use Rattle.px_tree.specs.declared.statements.Stmt.{Stmt}
use Rattle.px_tree.specs.declared.typed_values.ValueType.{ValueType}
use Rattle.px_tree.specs.declared.typed_heads.TypedHead.{TypedHead}
use Rattle.px_tree.specs.declared.typed_heads.TypedHead.TheVariants as head
use Rattle.px_walk.specs.Forms.{Form}
use Rattle.px_walk.specs.Forms as form
use Rattle.px_walk.specs.Roses.{Roses, rose, listed, gathered, head_of, number_of, at_of, parts_of}
use Rattle.px_walk.specs.ExprView.{Tree}
use Rattle.px_walk.specs.StmtView.{rose_of_stmt}
use Rattle.px_typed_walk.specs.TypedView.{TypedRose, typed_node}
use Rattle.px_names.specs.declared.named.Named.{Named}
use Rattle.px_operators.specs.Outcomes.{Outcome, unbuilt, refused_with, followed, mapped, both, all_of, flat}
use Rattle.px_environments.specs.declared.signatures.Variable.{Variable}
use Rattle.px_environments.specs.Environments.{Environment}
use Rattle.px_environments.specs.WrittenTypes.{first_type}
use Rattle.px_environments.specs.BuiltForms.{unbuilt_in}
use Rattle.px_operators.specs.Conversions.{fitted, tested, valued}
use Rattle.px_operators.specs.Operators.{operand, given, binary_step}
use Rattle.px_typed_expressions.specs.Expressions.{expression, expression_at, operands_below}
use Rattle.px_environments.specs.Atoms.{is_range_head}
use Rattle.px_types.specs.Statements.{made, fitted_to, assigned, assigned_given, assigned_each, assignment, augmented, declared_by, declarator, declarators_of, declaration, declare_of, return_in, range_parts, range_arguments, range_loop, trees_of, is_loop, for_of, in_loop, statement_by, statement, statements}
use Rattle.px_names.specs.NamedModule.{functions_of}
use Rattle.px_environments.specs.Signatures.{module_environment, statements_of}
use Rattle.px_types.specs.TypedModule.{FunctionTypes, ModuleTypes, block, code_types, functions_types, module_with, module_types}
use Rattle.px_types.specs.Types.{types_unless, types_of}
use Rattle.px_code_laws.specs.FineStatements.{Surrounding, FineStatementBy, IsFineStatement, AreFineStatements}
use Rattle.px_code_laws.specs.Compiled.{AreCompiled, IsCompiled}
use Rattle.px_compile.specs.ModuleImage.{source_in}
use Rattle.px_regcode.specs.Images.{ImageParts}
use Rattle.px_code_laws.specs.Outcomes.{NoReturnBy, HasNoReturn, HaveNoReturn}

-- ---- what there is, if something is

abbrev When : {A : Type 0} → (A → Type 0) → Outcome A → Type 0
When P (Ok a) = P a
When P (Err refusal) = Unit {0}

when_mapped : {A B : Type 0} (P : A → Type 0) (Q : B → Type 0) (f : A → B) (o : Outcome A) → When P o → ((a : A) → P a → Q (f a))
    → When Q (mapped f o)
when_mapped P Q f (Ok a) p after = after a p
when_mapped P Q f (Err refusal) p after = tt

when_made : {A B : Type 0} (Q : B → Type 0) (f : A → B) (o : Outcome A) → ((a : A) → Q (f a)) → When Q (mapped f o)
when_made Q f (Ok a) after = after a
when_made Q f (Err refusal) after = tt

when_followed : {A B : Type 0} (Q : B → Type 0) (o : Outcome A) (go : A → Outcome B) → ((a : A) → When Q (go a)) → When Q (followed o go)
when_followed Q (Ok a) go after = after a
when_followed Q (Err refusal) go after = tt

when_both : {A B : Type 0} (P : A → Type 0) (Q : B → Type 0) (a : Outcome A) (b : Outcome B) → When P a → When Q b
    → When (λ parts. P parts.0 × Q parts.1) (both a b)
when_both P Q (Ok a) (Ok b) p q = (p, q)
when_both P Q (Ok a) (Err refusal) p q = tt
when_both P Q (Err refusal) (Ok b) p q = tt
when_both P Q (Err refusal) (Err other) p q = tt

never : {A B : Type 0} (Q : B → Type 0) (at : Span) (o : Outcome A) → When Q (refused_with at o)
never Q at (Ok a) = tt
never Q at (Err refusal) = tt

-- ---- statements

-- what types make of a statement in module code
abbrev Plain : TypedHead → Roses TypedHead → Type 0
Plain head.Return parts = ⊥
Plain head.Declare parts = HaveNoReturn parts
Plain _ parts = Unit {0}

abbrev IsPlain : TypedRose → Type 0
IsPlain (rose h number at parts) = Plain h parts

abbrev ArePlain : List TypedRose → Type 0
ArePlain [] = Unit {0}
ArePlain (tree ∷ trees) = IsPlain tree × ArePlain trees

abbrev AreNoReturns : List TypedRose → Type 0
AreNoReturns trees = HaveNoReturn (gathered trees)

joined : (a b : List TypedRose) → AreNoReturns a → AreNoReturns b → AreNoReturns (a ++ b)
joined [] b p q = q
joined (tree ∷ a) b p q = (p.0, joined a b p.1 q)

makes : (h : TypedHead) (number : ℕ) (at : Span) (parts : Outcome (List TypedRose)) → ((trees : List TypedRose) → Plain h (gathered trees))
    → When IsPlain (made h number at parts)
makes h number at parts plain = when_made IsPlain (λ trees. typed_node h number at trees) parts plain

module _ (environment : Environment) (outside : environment.gives ≡ None) where
  declared : (variable : Option Variable) (number : ℕ) (at : Span) (parts : List Tree)
      → When HasNoReturn (declared_by environment variable number at parts)
  declared None number at parts = tt
  declared (Some variable) number at [] = tt
  declared (Some variable) number at (part ∷ parts) =
      when_made HasNoReturn (λ fit. typed_node (head.Declarator variable.slot variable.value_type) number at (fit ∷ []))
      (followed (expression environment part) (fitted variable.value_type)) (λ fit. tt)

  declarators : (names : List Tree) → When AreNoReturns (all_of (map (declarator environment) names))
  declarators [] = tt
  declarators (name ∷ names) =
      when_mapped (λ parts. HasNoReturn parts.0 × AreNoReturns parts.1) AreNoReturns (λ parts. parts.0 ∷ parts.1)
      (both (declarator environment name) (all_of (map (declarator environment) names)))
      (when_both HasNoReturn AreNoReturns (declarator environment name) (all_of (map (declarator environment) names))
      (declared (environment.variables (number_of name)) (number_of name) (at_of name) (parts_of name)) (declarators names))
      (λ parts p. p)

  declaration_by : (at : Span) (t : Option ValueType) (names : List Tree) → When AreNoReturns (declarators_of environment at t names)
  declaration_by at None names = tt
  declaration_by at (Some t) names = declarators names

  abbrev AllNoReturns : List (List TypedRose) → Type 0
  AllNoReturns [] = Unit {0}
  AllNoReturns (trees ∷ others) = AreNoReturns trees × AllNoReturns others

  flattened : (lists : List (List TypedRose)) → AllNoReturns lists → AreNoReturns (flat lists)
  flattened [] p = tt
  flattened (trees ∷ others) p = joined trees (flat others) p.0 (flattened others p.1)

  declarations : (trees : List Tree) → When AllNoReturns (all_of (map (declaration environment) trees))
  declarations [] = tt
  declarations (tree ∷ trees) =
      when_mapped (λ parts. AreNoReturns parts.0 × AllNoReturns parts.1) AllNoReturns (λ parts. parts.0 ∷ parts.1)
      (both (declaration environment tree) (all_of (map (declaration environment) trees)))
      (when_both AreNoReturns AllNoReturns (declaration environment tree) (all_of (map (declaration environment) trees))
      (declaration_by (at_of tree) (first_type (parts_of tree)) (drop 1 (parts_of tree))) (declarations trees))
      (λ parts p. p)

  declares : (number : ℕ) (at : Span) (trees : List Tree) → When IsPlain (declare_of environment number at trees)
  declares number at trees =
      when_mapped AreNoReturns IsPlain (λ parts. typed_node head.Declare number at parts) (mapped flat (all_of (map (declaration environment) trees)))
      (when_mapped AllNoReturns AreNoReturns flat (all_of (map (declaration environment) trees)) (declarations trees) (λ lists p. flattened lists p))
      (λ parts p. p)

  assigns : (number : ℕ) (at : Span) (targets : List (Outcome TypedRose)) (tree : Outcome TypedRose)
      → When IsPlain (assignment number at targets tree)
  assigns number at [] tree = when_made IsPlain (λ t. typed_node head.Expression number at (t ∷ [])) tree (λ t. tt)
  assigns number at (target ∷ []) tree =
      when_followed IsPlain (both target (followed tree valued)) (assigned number at)
      (λ parts. makes head.Assign number at (fitted_to parts) (λ trees. tt))
  assigns number at (target ∷ next ∷ targets) tree =
      when_followed IsPlain (both (all_of (target ∷ next ∷ targets)) (followed tree valued)) (assigned_each number at)
      (λ parts. when_made IsPlain (λ steps. typed_node head.AssignEach number at (steps ++ parts.1 ∷ []))
      (all_of (map (assigned_given parts.1) parts.0)) (λ steps. tt))

  loops : (number : ℕ) (at : Span) (looped : Bool)
      → When IsPlain (in_loop looped head.Break number at) × When IsPlain (in_loop looped head.Continue number at)
  loops number at true = (tt, tt)
  loops number at false = (tt, tt)

  ranges : (number : ℕ) (at : Span) (parts : List Tree) (block : List (Outcome TypedRose)) → When IsPlain (for_of environment number at parts block)
  ranges number at [] block = tt
  ranges number at (target ∷ []) block = tt
  ranges number at (target ∷ tree ∷ parts) block = by_range (is_range_head environment tree (head_of tree))
    where
      by_range : (b : Bool)
          → When IsPlain (if b then range_loop number at (expression environment target) (operands_below environment tree) block else unbuilt at)
      by_range true =
          when_made IsPlain (range_parts number at)
          (both (both (mapped trees_of (followed (expression environment target) operand)) (range_arguments (operands_below environment tree)))
          (all_of block))
          (λ parts. tt)
      by_range false = tt

  returned : (gives : Option ValueType) (number : ℕ) (at : Span) (parts : List Tree) → gives ≡ None
      → When IsPlain (return_in environment gives number at parts)
  returned None number at parts is = never IsPlain at (made head.Return number at (all_of (map (expression environment) parts)))
  returned (Some t) number at parts is = cc

  by_form : (f : Form) (looped : Bool) (number : ℕ) (at : Span) (parts : List Tree) (inner : List (Outcome TypedRose))
      → When IsPlain (statement_by environment looped f number at parts inner)
  by_form (form.Assign targets) looped number at parts inner =
      assigns number at (map (expression environment) (take targets parts)) (expression_at environment at (slice_get parts targets))
  by_form (form.Augment op) looped number at parts inner =
      when_followed IsPlain
      (both (followed (expression_at environment at (slice_get parts 0)) operand)
      (followed (expression_at environment at (slice_get parts 1)) operand))
      (augmented environment.cdivision number at op)
      (λ pair. makes (head.Augment op) number at
      (fitted_to (pair.0.0, binary_step environment.cdivision number at op (given number (at_of pair.0.0) pair.0.1) pair.1)) (λ trees. tt))
  by_form form.Pass looped number at parts inner = tt
  by_form form.Break looped number at parts inner = (loops number at looped).0
  by_form form.Continue looped number at parts inner = (loops number at looped).1
  by_form form.Return looped number at parts inner = returned environment.gives number at parts outside
  by_form (form.Global names) looped number at parts inner = tt
  by_form (form.If arms has_else) looped number at parts inner = makes (head.If arms has_else) number at (all_of inner) (λ trees. tt)
  by_form form.Arm looped number at parts inner =
      makes head.Arm number at (all_of (followed (expression_at environment at (slice_get parts 0)) tested ∷ drop 1 inner)) (λ trees. tt)
  by_form form.While looped number at parts inner =
      makes head.While number at (all_of (followed (expression_at environment at (slice_get parts 0)) tested ∷ drop 1 inner)) (λ trees. tt)
  by_form form.For looped number at parts inner = ranges number at parts (drop 2 inner)
  by_form form.Declare looped number at parts inner = declares number at parts
  by_form form.DeclareGroup looped number at parts inner = declares number at parts
  by_form _ looped number at parts inner = tt

  plain_statement : (tree : Tree) (looped : Bool) → When IsPlain (statement environment looped tree)
  unfolding statement
  plain_statement (rose f number at parts) looped =
      by_form f looped number at (listed parts) (statements environment (looped || is_loop f) parts)

  plain_block : (stmts : List Stmt) → When ArePlain (block environment stmts)
  plain_block [] = tt
  plain_block (s ∷ stmts) =
      when_mapped (λ parts. IsPlain parts.0 × ArePlain parts.1) ArePlain (λ parts. parts.0 ∷ parts.1)
      (both (statement environment false (rose_of_stmt s)) (block environment stmts))
      (when_both IsPlain ArePlain (statement environment false (rose_of_stmt s)) (block environment stmts)
      (plain_statement (rose_of_stmt s) false) (plain_block stmts))
      (λ parts p. p)

-- ---- the module

plain_types : (named : Named) → When (λ found. ArePlain found.code) (module_types named)
plain_types named =
    when_mapped (λ parts. ArePlain parts.0 × Unit {0}) (λ found. ArePlain found.code) module_with (both (code_types named) (functions_types named))
    (when_both ArePlain (λ functions. Unit {0}) (code_types named) (functions_types named)
    (plain_block (module_environment (functions_of named.«module») named.code) refl (statements_of named.«module»))
    (nothing_said (functions_types named)))
    (λ parts p. p.0)
  where
    nothing_said : (o : Outcome (List FunctionTypes)) → When (λ functions. Unit {0}) o
    nothing_said (Ok functions) = tt
    nothing_said (Err refusal) = tt

plain_unless : (refusal : Option Refusal) (named : Named) → When (λ found. ArePlain found.code) (types_unless refusal named)
plain_unless None named = plain_types named
plain_unless (Some refusal) named = tt

-- a statement that has code, and that types made
by_head : (c : Surrounding) (h : TypedHead) (parts : Roses TypedHead) → FineStatementBy c h parts (AreFineStatements c parts) → Plain h parts
    → NoReturnBy h (HaveNoReturn parts)
by_head c head.Expression parts fine plain = tt
by_head c head.Assign parts fine plain = tt
by_head c (head.Augment op) parts fine plain = tt
by_head c head.Declare parts fine plain = plain
by_head c (head.Declarator slot t) parts fine plain = tt
by_head c head.Pass parts fine plain = tt
by_head c head.Global parts fine plain = tt
by_head c head.Return parts fine plain = absurd plain
by_head c _ parts fine plain = absurd fine

no_return : (c : Surrounding) (tree : TypedRose) → IsFineStatement c tree → IsPlain tree → HasNoReturn tree
no_return c (rose h number at parts) fine plain = by_head c h parts fine plain

no_returns : (c : Surrounding) (registers : ℕ) (body : List TypedRose) → AreCompiled c registers body → ArePlain body → AreNoReturns body
no_returns c registers [] compiled plain = tt
no_returns c registers (tree ∷ trees) compiled plain =
    (no_return c tree compiled.0.0 plain.0, no_returns c registers trees compiled.1 plain.1)

pub code_has_no_return : (named : Named) (found : ModuleTypes) → types_of named ≡ Ok found → (image : ImageParts) → IsCompiled image (source_in found)
    → HaveNoReturn (gathered found.code)
code_has_no_return named found is image compiled =
    no_returns _ compiled.code.registers found.code compiled.is_code.compiled
    (subst (When (λ m. ArePlain m.code)) is (plain_unless (unbuilt_in named) named))
