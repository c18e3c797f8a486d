-- Each character of the text is one of the normal text, or a space that may wait.
use Rattle.std.proofs.Common.{◌≡◌, ◌+◌, ◌<◌, true, false, eqb, ◌∷◌, drop, length, get_or, refl, sym, ap, ◌∙◌, arith}
use Rattle.std.proofs.Common.{add-one, drop-cons}
use Rattle.std.proofs.lemmas.Bool.{ne_eqb}
use Rattle.mta_names.specs.Normal.{folded, normal_text}
use Rattle.mta_name_digest.specs.Digests.{digest_step, text_digest}
use Rattle.mta_name_digest.specs.Folding.{still}
use Rattle.mta_name_digest.proofs.Folds.{spaced_on, waited_on, character_on}
use Rattle.mta_name_digest.proofs.text.text_digest.Goals as goal
use Rattle.mta_name_digest.proofs.text.text_digest.Goals.{then-c-eq32, else-c-eq32, then-waits, else-waits}

pub loop-c-preserved : goal.loop-c-preserved
loop-c-preserved c =
    let l = c.loop-c in
    let text = c.args.text.now in
    let i = l.c-index in
    let x = get_or text i 0 in
    let rest = drop (i + 1) text in
    let within : i < length text = omega arith in
    let next : drop i text ≡ x ∷ rest = rw add-one (drop-cons text i 0 within) in
    elim c.if-c-eq32.branch [
      | then-c-eq32 w ↦ (
          let d = w.digest-is in
          let s = w.started-is in
          let v = w.waits-is in
          rw (d, s, v) (
            sym (spaced_on l.digest l.started l.waits x rest w.if-c-eq32.true)
                ∙ ap (λ t. text_digest l.digest (still l.started l.waits t)) (sym next) ∙ l.invariant.0,
            λ e. e,
          ))
      | else-c-eq32 w ↦ (
          let other : eqb x 32 ≡ false = ne_eqb x 32 w.if-c-eq32.false in
          let s = w.started-is in
          let v = w.waits-is in
          elim w.if-waits.branch [
            | then-waits u ↦ (
                let d : c.if-c-eq32.digest ≡ digest_step (digest_step l.digest 32) (folded x) = cc in
                let waits : l.waits ≡ true = u.if-waits.true in
                let started : l.started ≡ true = l.invariant.1 waits in
                let before : text_digest l.digest (still true true (drop i text)) ≡ text_digest c.args.digest
                (normal_text text) = rw (started, waits) at l.invariant.0 in
                rw (d, s, v) (
                  sym (waited_on l.digest x rest other)
                      ∙ ap (λ t. text_digest l.digest (still true true t)) (sym next) ∙ before,
                  λ e. refl,
                ))
            | else-waits u ↦ (
                let d : c.if-c-eq32.digest ≡ digest_step l.digest (folded x) = cc in
                let waits : l.waits ≡ false = u.if-waits.false in
                let before : text_digest l.digest (still l.started false (drop i text)) ≡ text_digest c.args.digest
                (normal_text text) = rw waits at l.invariant.0 in
                rw (d, s, v) (
                  sym (character_on l.digest l.started x rest other)
                      ∙ ap (λ t. text_digest l.digest (still l.started false t)) (sym next) ∙ before,
                  λ e. refl,
                ))
          ])
    ]
