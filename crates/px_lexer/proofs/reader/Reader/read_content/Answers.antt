use Rattle.std.proofs.Common.{◌≤◌, length, Some, Err, subst, sym}
use Rattle.px_lexer.specs.declared.readings.Unread.{Unread}
use Rattle.px_lexer.specs.declared.readings.Breach.{Breach}
use Rattle.px_lexer.specs.Reached.{IsEarlier}
use Rattle.px_lexer.specs.Readers.{Reads}
use Rattle.px_lexer.proofs.Refusing.{told_in, first_in, misindented_in, breach_in}
use Rattle.px_lexer.proofs.reader.Reader.read_content.Goals as goal

pub refusal-requires-clause-within : goal.refusal-requires-clause-within
refusal-requires-clause-within c =
    let text = c.args.source.now.text.now in
    let cs = c.args.source.now.characters in
    let r = c.args.self.now in
    let b = c.in-Some.breach in
    let whole = c.requires.whole.whole in
    let told = told_in text cs r (Some b) whole c.in-Some.ensures.started c.in-Some.ensures.finding in
    let refused = misindented_in text cs r c.args.form c.in-Ok.found.to c.in-Ok.found.kind b whole c.requires.reached told c.requires.stands c.in-Ok.ensures.ends c.requires.content c.in-Ok.ensures.kind in
    subst (λ xs. b.at ≤ length xs) (sym whole) refused.within

pub add_token-requires-clause-indented : goal.add_token-requires-clause-indented
add_token-requires-clause-indented c = λ first levels held last. c.in-None.ensures.finding levels held last first

pub refusal-requires-in-Err-Broken-clause-forward : goal.refusal-requires-in-Err-Broken-clause-forward
refusal-requires-in-Err-Broken-clause-forward c =
    let text = c.args.source.now.text.now in
    let cs = c.args.source.now.characters in
    let r = c.args.self.now in
    let b = c.in-Err-Broken.breach in
    let m = c.indentation_breach-misindented.result in
    let first = c.earlier_breach.result in
    let whole = c.requires.whole.whole in
    let told = told_in text cs r m whole c.indentation_breach-misindented.ensures.started c.indentation_breach-misindented.ensures.finding in
    let read = subst (λ (e : Unread). Reads c.args.form cs r.at.index (Err e)) c.in-Err-Broken.field-0-is c.in-Err-Broken.ensures in
    let early = subst (λ (x : Breach). IsEarlier m x first) c.in-Err-Broken.breach-is c.earlier_breach.ensures in
    let refused = breach_in text cs r c.args.form read.0 m b first whole c.requires.reached told c.requires.stands read.1 c.requires.content read.2 early in
    refused.forward

pub refusal-requires-in-Err-Broken-clause-within : goal.refusal-requires-in-Err-Broken-clause-within
refusal-requires-in-Err-Broken-clause-within c =
    let text = c.args.source.now.text.now in
    let cs = c.args.source.now.characters in
    let r = c.args.self.now in
    let b = c.in-Err-Broken.breach in
    let m = c.indentation_breach-misindented.result in
    let first = c.earlier_breach.result in
    let whole = c.requires.whole.whole in
    let told = told_in text cs r m whole c.indentation_breach-misindented.ensures.started c.indentation_breach-misindented.ensures.finding in
    let read = subst (λ (e : Unread). Reads c.args.form cs r.at.index (Err e)) c.in-Err-Broken.field-0-is c.in-Err-Broken.ensures in
    let early = subst (λ (x : Breach). IsEarlier m x first) c.in-Err-Broken.breach-is c.earlier_breach.ensures in
    let refused = breach_in text cs r c.args.form read.0 m b first whole c.requires.reached told c.requires.stands read.1 c.requires.content read.2 early in
    subst (λ xs. first.at ≤ length xs) (sym whole) refused.within

pub returns-in-Some-clause-refused : goal.returns-in-Some-clause-refused
returns-in-Some-clause-refused c =
    let text = c.args.source.now.text.now in
    let cs = c.args.source.now.characters in
    let r = c.args.self.now in
    let b = c.in-Some.breach in
    let whole = c.requires.whole.whole in
    let told = told_in text cs r (Some b) whole c.in-Some.ensures.started c.in-Some.ensures.finding in
    let refused = misindented_in text cs r c.args.form c.in-Ok.found.to c.in-Ok.found.kind b whole c.requires.reached told c.requires.stands c.in-Ok.ensures.ends c.requires.content c.in-Ok.ensures.kind in
    rw c.refusal.ensures (first_in text cs r b whole refused)

pub returns-in-Err-Broken-clause-refused : goal.returns-in-Err-Broken-clause-refused
returns-in-Err-Broken-clause-refused c =
    let text = c.args.source.now.text.now in
    let cs = c.args.source.now.characters in
    let r = c.args.self.now in
    let b = c.in-Err-Broken.breach in
    let m = c.indentation_breach-misindented.result in
    let first = c.earlier_breach.result in
    let whole = c.requires.whole.whole in
    let told = told_in text cs r m whole c.indentation_breach-misindented.ensures.started c.indentation_breach-misindented.ensures.finding in
    let read = subst (λ (e : Unread). Reads c.args.form cs r.at.index (Err e)) c.in-Err-Broken.field-0-is c.in-Err-Broken.ensures in
    let early = subst (λ (x : Breach). IsEarlier m x first) c.in-Err-Broken.breach-is c.earlier_breach.ensures in
    let refused = breach_in text cs r c.args.form read.0 m b first whole c.requires.reached told c.requires.stands read.1 c.requires.content read.2 early in
    rw c.refusal-in-Err-Broken.ensures (first_in text cs r first whole refused)
