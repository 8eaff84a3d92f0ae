use Rattle.std.proofs.Common.{◌≡◌, ◌+◌, ◌-◌, List, ℕ, sym, ◌∙◌, take, drop, arith}
use Rattle.spec.specs.Words.{key}
use Rattle.spec.specs.Numbers.{line}
use Rattle.spec.specs.Index.{kind_at, value_at}
use Rattle.spec.specs.JobAnswer.{key_name, key_line}
use Rattle.models.specs.Window.{list_start}
use Rattle.laws.specs.JobSheet.Printing.{lone_name}
use Rattle.laws.specs.JobSheet.IndexPrinting.{keys_end, keys_step, line_fits}
use Rattle.layout.specs.declared.keys.Key.{Key}
use Rattle.layout.specs.declared.keys.Key.TheVariants.{Word, Lone}
use Rattle.layout.specs.Keys.{key_of, Names}
use Rattle.layout.specs.Lists.{IsPostingList, list_part}
use Rattle.printer.proofs.print.put_key_lines.Goals as goal

-- any kind but 0 is printed as a lone character
name_is : (k : Key) (kind value : ℕ) → Names k kind value → key_name (key kind value) ≡ key_name (key_of k)
name_is (Word number) kind value h = rw (h.0, h.1)
name_is (Lone character) kind value h =
    rw h.1 (lone_name character kind h.0 ∙ sym (lone_name character 1 (λ n. omega (arith, n))))

line_is :
    {xs : List ℕ} {i : ℕ} {k : Key} {ps : List ℕ} → IsPostingList xs i k ps →
    key_line (line (key (kind_at xs i) (value_at xs i)) (take (list_start xs (i + 1) - list_start xs i) (drop (list_start xs i) xs)))
    ≡ key_line (line (key_of k) ps)
unfolding key_line line
line_is {xs} {i} {k} h = rw (← list_part h, name_is k (kind_at xs i) (value_at xs i) h.key_is)

pub put_key_line-end-requires : goal.put_key_line-end-requires
put_key_line-end-requires c =
    let step = rw c.loop-list.invariant.0 at c.in-Some.ensures.steps in
    rw (line_is step.0) at (line_fits c.loop-list.invariant.1 step.0.is)

pub loop-list-preserved : goal.loop-list-preserved
loop-list-preserved c =
    let step = rw c.loop-list.invariant.0 at c.in-Some.ensures.steps in
    (step.2, rw step.3 (keys_step c.loop-list.invariant.1 step.0.is (rw (line_is step.0) c.put_key_line-end.ensures)))

pub returns : goal.returns
returns c =
    let none = rw c.loop-list.invariant.0 at c.in-None.ensures.steps in
    keys_end c.loop-list.invariant.1 none
