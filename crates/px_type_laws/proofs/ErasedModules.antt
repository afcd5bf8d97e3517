-- Functions and modules are what stands in the text, once they are erased.
use Rattle.std.proofs.Common.{◌≡◌, List, [], ◌∷◌, map, Option, Some, None, sym, ap, ◌∙◌}
use Rattle.std.specs.Prelude.{Ok, zip, false}
use Rattle.std.specs.List.{AllZip}
use Rattle.px_base.specs.declared.refusals.Refusal.{Refusal}
use Rattle.px_tree.specs.declared.modules.Function.{Function}
use Rattle.px_tree.specs.declared.statements.Stmt.{Stmt}
use Rattle.px_tree.specs.declared.typed_values.ValueType.{ValueType}
use Rattle.px_walk.specs.StmtView.{rose_of_stmt}
use Rattle.px_typed_walk.specs.TypedView.{TypedRose}
use Rattle.px_names.specs.declared.named.NamedCode.{NamedCode}
use Rattle.px_names.specs.declared.named.Named.{Named}
use Rattle.px_names.specs.NamedModule.{functions_of}
use Rattle.px_operators.specs.Outcomes.{both}
use Rattle.px_environments.specs.Environments.{Environment}
use Rattle.px_environments.specs.Signatures.{function_environment, module_environment, statements_of}
use Rattle.px_environments.specs.BuiltForms.{unbuilt_in}
use Rattle.px_types.specs.Statements.{statement}
use Rattle.px_types.specs.TypedModule.{FunctionTypes, ModuleTypes, function_with, header_outcome, block, function_types, code_types, functions_types, module_with}
use Rattle.px_types.specs.Types.{types_unless, types_of}
use Rattle.px_type_laws.specs.Erased.{erased}
use Rattle.px_type_laws.specs.BareStatements.{bare_block}
use Rattle.px_type_laws.specs.BareModules.{erased_function, erased_module, bare_function, bare_module}
use Rattle.px_type_laws.proofs.OutcomeParts.{mapped_ok, both_ok}
use Rattle.px_type_laws.proofs.Agreements.{Shows, Agree, all_shown}
use Rattle.px_type_laws.proofs.ErasedStatements.{statement_erased}

stmts_agree : (environment : Environment) (stmts : List Stmt) → Agree (map (λ (s : Stmt). statement environment false (rose_of_stmt s)) stmts) (bare_block environment stmts)
stmts_agree environment [] = tt
stmts_agree environment (s ∷ stmts) = (statement_erased environment false (rose_of_stmt s), stmts_agree environment stmts)

block_erased : (environment : Environment) (stmts : List Stmt) (body : List TypedRose) → block environment stmts ≡ Ok body → map erased body ≡ bare_block environment stmts
block_erased environment stmts body is =
    all_shown erased (map (λ (s : Stmt). statement environment false (rose_of_stmt s)) stmts) (bare_block environment stmts) body (stmts_agree environment stmts) is

pub function_erased : (functions : List Function) (f : Function) (code : NamedCode) (types : FunctionTypes) → function_types functions (f, code) ≡ Ok types
    → erased_function types ≡ bare_function functions (f, code)
function_erased functions f code types is =
    let environment = function_environment functions (f, code) in
    let found = mapped_ok (λ (parts : (List ValueType × ValueType) × List TypedRose). function_with f parts.1) (both (header_outcome f) (block environment f.body)) types is in
    let parts = both_ok (header_outcome f) (block environment f.body) found.0 found.1 in
    let body = block_erased environment f.body found.0.1 parts.1 in
    ap erased_function (sym found.2) ∙ (λ i. record { header = function_with f []; body = body i })

functions_agree : (functions : List Function) (pairs : List (Function × NamedCode)) → AllZip (Shows erased_function) (map (function_types functions) pairs) (map (bare_function functions) pairs)
functions_agree functions [] = tt
functions_agree functions (pair ∷ pairs) = (function_erased functions pair.0 pair.1, functions_agree functions pairs)

module_by : (unbuilt : Option Refusal) (named : Named) (types : ModuleTypes) → types_unless unbuilt named ≡ Ok types → erased_module types ≡ bare_module named
module_by None named types is =
    let functions = functions_of named.«module» in
    let pairs = zip functions named.functions in
    let environment = module_environment functions named.code in
    let found = mapped_ok module_with (both (code_types named) (functions_types named)) types is in
    let parts = both_ok (code_types named) (functions_types named) found.0 found.1 in
    let code = block_erased environment (statements_of named.«module») found.0.0 parts.0 in
    let all = all_shown erased_function (map (function_types functions) pairs) (map (bare_function functions) pairs) found.0.1 (functions_agree functions pairs) parts.1 in
    ap erased_module (sym found.2) ∙ (λ i. record { code = code i; functions = all i })
module_by (Some refusal) named types is = absurd cc

pub module_erased : (named : Named) (types : ModuleTypes) → types_of named ≡ Ok types → erased_module types ≡ bare_module named
module_erased named types is = module_by (unbuilt_in named) named types is
