use Rattle.std.proofs.Common.{◌-◌, length}
use Rattle.px_lexer.specs.declared.spelling.Operator.TheVariants as sign
use Rattle.px_lexer.specs.declared.token_list.TokenKind.TheVariants as kind
use Rattle.px_lexer.specs.Terminals.{terminals_of}
use Rattle.px_parser.specs.Ends.{EndsAlias}
use Rattle.px_parser.specs.ModuleGrammar.{Imported}
use Rattle.px_parser.proofs.SeparatedSteps.{IsSeparated}
use Rattle.px_parser.proofs.imports.imported_names.Given as goal

abbrev pub invariant-loop-alloc : goal.invariant-loop-alloc
invariant-loop-alloc l = IsSeparated (kind.Operator sign.Comma) Imported EndsAlias (terminals_of l.tokens) l.from l.tree l.to

abbrev pub decreases-loop-alloc : goal.decreases-loop-alloc
decreases-loop-alloc l = length l.tokens.list - l.to
