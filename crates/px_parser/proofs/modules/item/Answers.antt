use Rattle.std.proofs.lemmas.Result.{err_from_is_err_and}
use Rattle.px_base.proofs.Facts.{denied}
use Rattle.px_lexer.specs.Terminals.{terminals_of}
use Rattle.px_exprs.specs.Runs.{nesting_limit}
use Rattle.px_parser.proofs.ItemSteps.{places_function, places_import, places_other, newline_item, c_item_read, c_item_refused, function_item_read, function_item_refused, import_item_read, import_item_refused, statement_items_read, statement_items_refused}
use Rattle.px_parser.proofs.modules.item.Goals as goal

pub returns-then-is_newline : goal.returns-then-is_newline
returns-then-is_newline c = newline_item nesting_limit c.requires.input (c.is_newline.ensures.0 c.if-is_newline.true) c.new.result c.new.ensures c.gone_on.result c.gone_on.ensures

pub returns-in_err-found : goal.returns-in_err-found
returns-in_err-found c =
    let p = err_from_is_err_and c.from_residual.result c.from_residual.ensures.1 in
    rw (p.1, p.2) (c_item_refused nesting_limit (c.is_keyword.ensures.0 c.if-is_keyword.true) c.in_err-found.field-0.0 c.in_err-found.ensures)

pub returns-then-is_keyword : goal.returns-then-is_keyword
returns-then-is_keyword c = c_item_read nesting_limit (c.is_keyword.ensures.0 c.if-is_keyword.true) c.in_ok-found.ensures c.gone_on-then-is_keyword.result c.gone_on-then-is_keyword.ensures

pub returns-in_err-found-2 : goal.returns-in_err-found-2
returns-in_err-found-2 c =
    let p = err_from_is_err_and c.from_residual-in_err-found-2.result c.from_residual-in_err-found-2.ensures.1 in
    rw (p.1, p.2) (function_item_refused (places_function (terminals_of c.args.tokens.now) c.args.from nesting_limit (c.begins_function.ensures.0 c.if-begins_function.true)) c.in_err-found-2.field-0.0 c.in_err-found-2.ensures)

pub returns-then-begins_function : goal.returns-then-begins_function
returns-then-begins_function c =
    function_item_read (places_function (terminals_of c.args.tokens.now) c.args.from nesting_limit (c.begins_function.ensures.0 c.if-begins_function.true)) c.in_ok-found-2.ensures c.in_ok-tree.tree c.in_ok-tree.ensures
    c.gone_on-then-begins_function.result c.gone_on-then-begins_function.ensures

pub returns-in_err-found-3 : goal.returns-in_err-found-3
returns-in_err-found-3 c =
    let p = err_from_is_err_and c.from_residual-in_err-found-3.result c.from_residual-in_err-found-3.ensures.1 in
    rw (p.1, p.2) (import_item_refused (places_import (terminals_of c.args.tokens.now) c.args.from nesting_limit (c.begins_import.ensures.0 c.if-begins_import.true)) c.in_err-found-3.field-0.0 (c.in_err-found-3.ensures nesting_limit))

pub returns-then-begins_import : goal.returns-then-begins_import
returns-then-begins_import c =
    import_item_read (places_import (terminals_of c.args.tokens.now) c.args.from nesting_limit (c.begins_import.ensures.0 c.if-begins_import.true)) (c.in_ok-found-3.ensures nesting_limit) c.in_ok-tree-2.tree c.in_ok-tree-2.ensures
    c.gone_on-then-begins_import.result c.gone_on-then-begins_import.ensures

pub returns-in_err-found-4 : goal.returns-in_err-found-4
returns-in_err-found-4 c =
    let p = err_from_is_err_and c.from_residual-in_err-found-4.result c.from_residual-in_err-found-4.ensures.1 in
    let no_function = denied c.begins_function.ensures c.if-begins_function.false in
    let no_import = denied c.begins_import.ensures c.if-begins_import.false in
    let places = places_other (terminals_of c.args.tokens.now) c.args.from nesting_limit (denied c.is_newline.ensures c.if-is_newline.false) no_function (denied c.is_keyword.ensures c.if-is_keyword.false) no_import in
    rw (p.1, p.2) (statement_items_refused places c.in_err-found-4.field-0.0 c.in_err-found-4.ensures)

pub returns : goal.returns
returns c =
    let no_function = denied c.begins_function.ensures c.if-begins_function.false in
    let no_import = denied c.begins_import.ensures c.if-begins_import.false in
    let places = places_other (terminals_of c.args.tokens.now) c.args.from nesting_limit (denied c.is_newline.ensures c.if-is_newline.false) no_function (denied c.is_keyword.ensures c.if-is_keyword.false) no_import in
    statement_items_read places c.in_ok-found-4.ensures c.in_ok-tree-3.tree c.in_ok-tree-3.ensures
