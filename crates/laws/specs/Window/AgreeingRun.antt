-- Extending a window by the lines that agree, first those listed and then the range, is extending it by all lines. Assumes nothing.
use Rattle.std.specs.Prelude.{◌≡◌, refl, List, [], ◌∷◌, ◌++◌, ℕ, ◌-◌, take}
use Rattle.std.proofs.Common.{sym, ap, ◌∙◌}
use Rattle.spec.specs.Dictionary.{Lexicon}
use Rattle.models.specs.Window.{run, offset_at, agrees_line, agreeing_lines, run_list}
use Rattle.laws.specs.Window.Window.{Reaches}
use Rattle.laws.specs.Window.LineSteps.{offset_apart}
use Rattle.laws.specs.Window.LeadingLines.{run_those}
use Rattle.laws.specs.Window.AgreeingLines.{AgreeingListed}

run_append : (f : ℕ → List ℕ → List ℕ) (is js rs : List ℕ) → run_list f (is ++ js) rs ≡ run_list f js (run_list f is rs)
unfolding run_list
run_append f [] js rs = refl
run_append f (i ∷ is) js rs = run_append f is js (f i rs)

module _ (o : ℕ) (lex : Lexicon) (xs s : List ℕ) (q : ℕ) where
  abbrev step : ℕ → List ℕ → List ℕ
  step = offset_at o lex xs s q

  agreeing_run : (a b : ℕ) (rs : List ℕ) → run_list step (agreeing_lines o lex xs s a b) rs ≡ run step a b rs
  unfolding agreeing_lines
  agreeing_run a b rs = run_those step (agrees_line o lex xs s) (λ i f old. offset_apart lex xs s q o i f old) (b - a) a rs

pub agreeing_reaches :
    {o : ℕ} {lex : Lexicon} {xs s : List ℕ} {w : ℕ} {lines : List ℕ} {count from to : ℕ} →
    AgreeingListed o lex xs s w lines count from to → (q : ℕ) (old : List ℕ) {mid now : List ℕ} {highest max_reach : ℕ} →
    Reaches (run_list (step o lex xs s q) (take count lines) old) mid highest →
    Reaches (run (step o lex xs s q) from to mid) now max_reach → Reaches (run (step o lex xs s q) 0 w old) now max_reach
agreeing_reaches {o} {lex} {xs} {s} {w} {lines} {count} {from} {to} h q old listed range =
    let go = step o lex xs s q in
    record {
      is =
          range.is
          ∙ ap (run go from to) listed.is
          ∙ sym (agreeing_run o lex xs s q from to (run_list go (take count lines) old))
          ∙ sym (run_append go (take count lines) (agreeing_lines o lex xs s from to) old)
          ∙ ap (λ (is : List ℕ). run_list go is old) (sym h.found)
          ∙ agreeing_run o lex xs s q 0 w old;
      bounded = range.bounded;
    }
