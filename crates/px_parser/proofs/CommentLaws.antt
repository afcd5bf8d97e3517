-- The leading comment lines of a text stand in it.
use Rattle.std.proofs.Common.{ℕ, ◌≤◌, List, ◌++◌, All, length, filter, arith, flat_map}
use Rattle.std.specs.Prelude.{take_while, not}
use Rattle.std.proofs.lemmas.List.Elements.{All-same, All-filter, All-map, All-take, All-weaker}
use Rattle.px_lexer.specs.declared.token_list.Tokens.{Tokens}
use Rattle.px_lexer.specs.declared.token_list.Comment.{Comment}
use Rattle.px_lexer.specs.Characters.{characters}
use Rattle.px_lexer.specs.Pieces.{Piece, is_content, is_comment}
use Rattle.px_lexer.specs.Lines.{pieces_of}
use Rattle.px_lexer.specs.Tokens.{IsTokens, comment_at, leading_comments}
use Rattle.px_exprs.proofs.InputLaws.{IsInside, pieces_inside, byte_further, byte_inside, text_read}

-- a comment's bytes are bytes of the text
abbrev pub Lies : List ℕ → Comment → Type 0
Lies text comment = (comment.from ≤ comment.to) × (comment.to ≤ length text)

pub comments_lie : (tokens : Tokens) → IsTokens tokens.text tokens.list tokens.comments → All (Lies tokens.text) tokens.comments
comments_lie tokens t =
    let text = tokens.text in
    let cs = characters text in
    let pieces = flat_map pieces_of t.lines ++ t.rest in
    let inside = IsInside (length cs) in
    let lies = λ (p : Piece). Lies text (comment_at text p) in
    let front = take_while (λ (p : Piece). not (is_content p.form)) pieces in
    let leading = filter (λ (p : Piece). is_comment p.form) front in
    let read = text_read text t.readable in
    let all : All inside front = All-take inside _ pieces (pieces_inside cs 0 (length cs) pieces t.cut.pieces) in
    let kept : All inside leading = All-filter (λ (p : Piece). is_comment p.form) inside front all in
    let placed : All lies leading = All-weaker inside lies (λ p i. (omega (arith, byte_further text p.from p.to i.0), byte_inside text p.to read)) leading kept in
    All-same (Lies text) tokens.comments (leading_comments text pieces) t.leading (All-map (Lies text) (comment_at text) leading placed)
