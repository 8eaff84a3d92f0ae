use Rattle.std.proofs.Common.{◌≡◌, ℕ, List}
use Rattle.dictionary.specs.Words.{lexicon_of}
use mathlib.Core.Path.{sym, ap, ◌∙◌}
use native.Mathlib.Omega.{arith}
use Rattle.spec.specs.Search.{agrees, agrees_at}
use Rattle.models.specs.Window.{agrees_line}
use Rattle.laws.specs.Search.Offset.{agrees_offset}
use Rattle.laws.specs.Search.Offset32.{offset_natural}
use Rattle.laws.specs.Window.AgreeingLines.{agreeing_push, agreeing_pass}
use Rattle.agreement.proofs.words.compare_few.Goals as goal
use Rattle.agreement.proofs.words.compare_few.Goals.{then-agrees_at, else-agrees_at}

pub loop-line-preserved : goal.loop-line-preserved
loop-line-preserved c =
    let a = c.args in
    let l = c.loop-line in
    -- what `agrees_at` answers of the line
    let agreed : agrees_line a.key_start (lexicon_of a.directory.now.words) a.directory.now.index.now a.string.now l.line
    ≡ c.agrees_at.result =
    ap (λ (k : List ℕ). agrees a.string.now 0 k a.key_start) (sym c.word-word.ensures)
    ∙ agrees_offset a.string.now 0 c.word-word.result.now a.key_start
    ∙ ap (agrees_at c.word-word.result.now a.string.now) (offset_natural a.key_start (omega arith))
    ∙ sym c.agrees_at.ensures in
    elim c.if-agrees_at.branch [
      | then-agrees_at w ↦ (
        rw (w.lines-is, w.count-is) (agreeing_push l.invariant.0 (omega arith) (omega arith) (agreed ∙ w.if-agrees_at.true)),
        omega arith,
      )
      | else-agrees_at w ↦ (
        rw (w.lines-is, w.count-is) (agreeing_pass l.invariant.0 (omega arith) (agreed ∙ w.if-agrees_at.false)),
        omega arith,
      )
    ]
