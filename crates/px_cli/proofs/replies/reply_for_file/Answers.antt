use Rattle.std.proofs.Common.{List, ℕ, sym, subst, ap, ◌∙◌, Option, Some, Ok}
use Rattle.px_base.specs.declared.outside.LibraryTrouble.{LibraryTrouble}
use Rattle.px_base.specs.Outside.{Hands}
use Rattle.px_cli.proofs.ReplyLemmas.{replies_for_module, replies_for_no_file}
use Rattle.px_cli.proofs.replies.reply_for_file.Goals as goal

pub returns-in-Ok-Some : goal.returns-in-Ok-Some
returns-in-Ok-Some g c =
    let given = subst (λ (v : Option (List ℕ)). Hands {E = LibraryTrouble} (g.L.Library.holds c.args.library.now) c.args.file.now (Ok v)) (c.in-Ok-Some.field-0-is ∙ ap Some (sym c.as_slice.ensures)) c.in-Ok-Some.ensures.given in
    replies_for_module c.args.command _ _ _ _ _ _ given c.in-Ok-Some.ensures.calm c.reply_for_module.ensures

pub returns-in-Ok-None : goal.returns-in-Ok-None
returns-in-Ok-None g c =
    let given = subst (λ (v : Option (List ℕ)). Hands {E = LibraryTrouble} (g.L.Library.holds c.args.library.now) c.args.file.now (Ok v)) c.in-Ok-None.field-0-is c.in-Ok-None.ensures.given in
    replies_for_no_file c.args.command _ _ _ _ _ given c.in-Ok-None.ensures.calm c.reply_of_no_file.ensures
