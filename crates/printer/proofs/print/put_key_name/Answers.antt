-- `put_key_name` meets its contract: two writes for a word, two for a lone character.
use Rattle.std.proofs.Common.{◌≡◌, ◌++◌, ℕ, refl, arith}
use Rattle.spec.specs.JobAnswer.{decimal, hexadecimal, key_name, key_word_head, key_lone_head}
use Rattle.laws.specs.JobSheet.Printing.{word_name, lone_name, length_hexadecimal}
use Rattle.layout.specs.declared.keys.Key.{Key}
use Rattle.layout.specs.declared.keys.Key.TheVariants.{Word, Lone}
use Rattle.layout.specs.Keys.{key_of}
use Rattle.printer.proofs.Runs.{room_start, room_first, room_next, wrote_both}
use Rattle.printer.proofs.print.put_key_name.Goals as goal

word : {k : Key} {number : ℕ} → k ≡ Word number → key_name (key_of k) ≡ key_word_head ++ decimal number
word {number} e = rw e (word_name number 0 refl)

lone : {k : Key} {character : ℕ} → k ≡ Lone character → key_name (key_of k) ≡ key_lone_head ++ hexadecimal character
lone {character} e = rw e (lone_name character 1 (λ n. omega (arith, n)))

pub put_bytes-value-requires : goal.put_bytes-value-requires
put_bytes-value-requires c =
    let run = room_start (word c.in-Word.is) c.args.at c.args.out.now c.requires in
    room_first key_word_head _ run

pub put_decimal-requires : goal.put_decimal-requires
put_decimal-requires c =
    let run = room_start (word c.in-Word.is) c.args.at c.args.out.now c.requires in
    (room_next run c.put_bytes-value.ensures).room

pub returns-in-Word : goal.returns-in-Word
returns-in-Word c =
    let run = room_start (word c.in-Word.is) c.args.at c.args.out.now c.requires in
    rw (word c.in-Word.is) (wrote_both run c.put_bytes-value.ensures c.put_decimal.ensures)

pub put_bytes-value-requires-in-Lone : goal.put_bytes-value-requires-in-Lone
put_bytes-value-requires-in-Lone c =
    let run = room_start (lone c.in-Lone.is) c.args.at c.args.out.now c.requires in
    room_first key_lone_head _ run

pub put_hexadecimal-requires : goal.put_hexadecimal-requires
put_hexadecimal-requires c =
    let run = room_start (lone c.in-Lone.is) c.args.at c.args.out.now c.requires in
    omega (arith, (room_next run c.put_bytes-value-in-Lone.ensures).room, length_hexadecimal c.in-Lone.character)

pub returns-in-Lone : goal.returns-in-Lone
returns-in-Lone c =
    let run = room_start (lone c.in-Lone.is) c.args.at c.args.out.now c.requires in
    rw (lone c.in-Lone.is) (wrote_both run c.put_bytes-value-in-Lone.ensures c.put_hexadecimal.ensures)
