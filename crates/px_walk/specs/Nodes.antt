-- The rose tree below a node of the parse tree.
use Rattle.px_walk.specs.ExprView.{Tree, rose_of_type, rose_of_expr, rose_of_entry, rose_of_trailer, rose_of_argument, rose_of_item as rose_of_subscript_item, rose_of_link, rose_of_comparison}
use Rattle.px_walk.specs.StmtView.{rose_of_stmt, rose_of_arm, rose_of_declaration, rose_of_declarator}
use Rattle.px_walk.specs.ModuleView.{rose_of_module, rose_of_comment, rose_of_import, rose_of_imported_name, rose_of_function, rose_of_decorator, rose_of_param}
use Rattle.px_walk.specs.declared.tree_node.TreeNode.{TreeNode}
use Rattle.px_walk.specs.declared.tree_node.TreeNode.TheVariants as node

abbrev pub rose_of : TreeNode → Tree
rose_of (node.Module m) = rose_of_module m.now
rose_of (node.Comment comment) = rose_of_comment comment.now
rose_of (node.Import imported) = rose_of_import imported.now
rose_of (node.ImportedName imported) = rose_of_imported_name imported.now
rose_of (node.Function f) = rose_of_function f.now
rose_of (node.Decorator decorator) = rose_of_decorator decorator.now
rose_of (node.Param param) = rose_of_param param.now
rose_of (node.«Type» typing) = rose_of_type typing.now
rose_of (node.Stmt s) = rose_of_stmt s.now
rose_of (node.Arm arm) = rose_of_arm arm.now
rose_of (node.Declaration declaration) = rose_of_declaration declaration.now
rose_of (node.Declarator declarator) = rose_of_declarator declarator.now
rose_of (node.Expr e) = rose_of_expr e.now
rose_of (node.Entry entry) = rose_of_entry entry.now
rose_of (node.Trailer trailer at) = rose_of_trailer trailer.now at
rose_of (node.Argument argument) = rose_of_argument argument.now
rose_of (node.Item item at) = rose_of_subscript_item item.now at
rose_of (node.Link link) = rose_of_link link.now
rose_of (node.Comparison comparison) = rose_of_comparison comparison.now
