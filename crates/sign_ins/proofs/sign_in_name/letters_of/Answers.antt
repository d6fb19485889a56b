use Rattle.std.proofs.Common.{◌&&◌, ℕ, List, not, nat_eq, length, sym, ap, ◌∙◌, chars, string_bytes, arith}
use Rattle.std.proofs.lemmas.Iterator.{YieldsList-from_chars}
use Rattle.std.proofs.lemmas.Iterator.Consumers.{YieldsList-turn, YieldsList-end}
use Rattle.std.proofs.lemmas.List.{length_push}
use Rattle.std.specs.Char.{is_whitespace}
use Rattle.sign_ins.proofs.WordLemmas.{ends_there, goes_on_there, ends_at_last}
use Rattle.sign_ins.proofs.sign_in_name.letters_of.Goals as goal

pub returns-then-is_word_end : goal.returns-then-is_word_end
returns-then-is_word_end c =
    let signs = chars c.args.plain.now in
    let found = YieldsList-turn (YieldsList-from_chars c.args.plain.now c.utf8.plain cc) c.loop-sign.yielded _ c.loop-sign.yielded_by _ _ c.in-Some.sign c.in-Some.is c.next.ensures.steps in
    let blank = ap (λ (s : List ℕ). is_whitespace c.in-Some.sign && not (nat_eq (length s) 0)) (sym c.as_str.ensures.value) ∙ sym c.is_word_end.ensures ∙ c.if-is_word_end.true in
    sym (ends_there signs (string_bytes c.loop-sign.letters) (length c.loop-sign.yielded) c.in-Some.sign found blank)
    ∙ c.loop-sign.invariant

pub loop-sign-preserved : goal.loop-sign-preserved
loop-sign-preserved c =
    let signs = chars c.args.plain.now in
    let found = YieldsList-turn (YieldsList-from_chars c.args.plain.now c.utf8.plain cc) c.loop-sign.yielded _ c.loop-sign.yielded_by _ _ c.in-Some.sign c.in-Some.is c.next.ensures.steps in
    let no_blank = ap (λ (s : List ℕ). is_whitespace c.in-Some.sign && not (nat_eq (length s) 0)) (sym c.as_str.ensures.value) ∙ sym c.is_word_end.ensures ∙ c.if-is_word_end.false in
    rw (c.in_ok-push_sign.ensures, length_push c.loop-sign.yielded c.in-Some.sign)
    (sym (goes_on_there signs (string_bytes c.loop-sign.letters) (length c.loop-sign.yielded) c.in-Some.sign found no_blank)
    ∙ c.loop-sign.invariant)

pub returns : goal.returns
returns c =
    let end = YieldsList-end (YieldsList-from_chars c.args.plain.now c.utf8.plain cc) c.loop-sign.yielded _ c.loop-sign.yielded_by _ _ c.in-None.is c.next.ensures.steps in
    sym (ends_at_last (chars c.args.plain.now) (string_bytes c.loop-sign.letters) (length c.loop-sign.yielded) (omega (arith, end.1))) ∙ c.loop-sign.invariant
