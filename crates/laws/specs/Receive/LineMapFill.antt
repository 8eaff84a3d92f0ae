-- Filling the line map: the number of each line at its positions, from a list of zeros, as the reception test needs it. Assumes nothing.
use Rattle.std.specs.Prelude.{◌≡◌, refl, true, ◌⊎◌, List, [], ◌∷◌, ℕ, zero, suc, ◌+◌, ◌-◌, ◌≤◌, ◌<◌, length, get_or, set}
use Rattle.std.proofs.Common.{◌∙◌, inl, inr, ⊎_elim, arith, length-set, get_or-set_same}
use Rattle.basics.specs.Member.{In}
use Rattle.basics.specs.Stores.{set_either}
use Rattle.spec.specs.Dictionary.{Lexicon}
use Rattle.spec.specs.Numbers.{Line, line}
use Rattle.spec.specs.Index.{n_of, keys_of, lines_in, readable}
use Rattle.models.specs.Entries.{no_line}
use Rattle.models.specs.Reception.{fill_positions, fill_line_map, mapped_at}
use Rattle.models.specs.Window.{line_of}
use Rattle.laws.specs.Text.Facts.{GoodLexicon, GoodLine}
use Rattle.laws.specs.Dictionary.Keys.{spells_some}
use Rattle.laws.specs.Numbers.FlatOrder.{rise_least}
use Rattle.laws.specs.Readable.Readable.{readable_get}
use Rattle.laws.specs.Numbers.LineNumbers.{line_of_in, length_lines_in, getD_lines_in}
use Rattle.laws.specs.Receive.LineMap.{LineMap}

pub length_fill_positions : (m : ℕ) (ps ns : List ℕ) → length (fill_positions m ps ns) ≡ length ns
unfolding fill_positions
length_fill_positions m [] ns = refl
length_fill_positions m (p ∷ ps) ns = length_fill_positions m ps (set ns (p - 1) m) ∙ length-set ns (p - 1) m

-- a number is unchanged, or is the value and its position is in the list
fill_positions_get :
    (m : ℕ) (ps ns : List ℕ) (p : ℕ) → 1 ≤ p → ((q : ℕ) → In q ps → 1 ≤ q) →
    (mapped_at (fill_positions m ps ns) p ≡ mapped_at ns p) ⊎ (In p ps × (mapped_at (fill_positions m ps ns) p ≡ m))
unfolding fill_positions mapped_at
fill_positions_get m [] ns p lo from = inl refl
fill_positions_get m (q ∷ ps) ns p lo from =
    ⊎_elim old
    (λ (h : In p ps × (get_or (fill_positions m ps (set ns (q - 1) m)) (p - 1) 0 ≡ m)). inr (inr h.0, h.1))
    (fill_positions_get m ps (set ns (q - 1) m) p lo (λ r k. from r (inr k)))
  where
    old :
        get_or (fill_positions m ps (set ns (q - 1) m)) (p - 1) 0 ≡ get_or (set ns (q - 1) m) (p - 1) 0 →
        (get_or (fill_positions m ps (set ns (q - 1) m)) (p - 1) 0 ≡ get_or ns (p - 1) 0)
        ⊎ (In p (q ∷ ps) × (get_or (fill_positions m ps (set ns (q - 1) m)) (p - 1) 0 ≡ m))
    old e =
        ⊎_elim (λ (h : get_or (set ns (q - 1) m) (p - 1) 0 ≡ get_or ns (p - 1) 0). inl (e ∙ h))
        (λ (h : (p - 1 ≡ q - 1) × (get_or (set ns (q - 1) m) (p - 1) 0 ≡ m)).
        let same : p ≡ q = omega (arith, from q (inl refl)) in inr (inl same, e ∙ h.1))
        (set_either 0 ns (q - 1) m (p - 1))

-- a mapped position stays mapped, and the positions of the list are mapped
fill_positions_keeps : (m : ℕ) (ps ns : List ℕ) (p : ℕ) → 1 ≤ m → 1 ≤ mapped_at ns p → 1 ≤ mapped_at (fill_positions m ps ns) p
unfolding fill_positions mapped_at
fill_positions_keeps m [] ns p some h = h
fill_positions_keeps m (q ∷ ps) ns p some h =
    fill_positions_keeps m ps (set ns (q - 1) m) p some
    (⊎_elim (λ (e : get_or (set ns (q - 1) m) (p - 1) 0 ≡ get_or ns (p - 1) 0). omega arith)
    (λ (e : (p - 1 ≡ q - 1) × (get_or (set ns (q - 1) m) (p - 1) 0 ≡ m)). omega arith) (set_either 0 ns (q - 1) m (p - 1)))

fill_positions_put : (m : ℕ) (ps ns : List ℕ) (p : ℕ) → 1 ≤ m → 1 ≤ p → p ≤ length ns → In p ps → 1 ≤ mapped_at (fill_positions m ps ns) p
unfolding fill_positions mapped_at
fill_positions_put m [] ns p some lo hi k = absurd k
fill_positions_put m (q ∷ ps) ns p some lo hi (inl e) =
    fill_positions_keeps m ps (set ns (q - 1) m) p some
    (let is : get_or (set ns (q - 1) m) (p - 1) 0 ≡ m = rw e (get_or-set_same ns (q - 1) m 0 (omega arith)) in omega arith)
fill_positions_put m (q ∷ ps) ns p some lo hi (inr k) =
    fill_positions_put m ps (set ns (q - 1) m) p some lo (omega (arith, length-set ns (q - 1) m)) k

-- LINE AFTER LINE

fill_line_map_get :
    (i : ℕ) (ls : List Line) (ns : List ℕ) (p : ℕ) → 1 ≤ p → ((l : Line) → In l ls → (q : ℕ) → In q l.positions → 1 ≤ q) →
    (mapped_at (fill_line_map i ls ns) p ≡ mapped_at ns p)
    ⊎ ((j : ℕ) × (j < length ls) × In p (get_or ls j no_line).positions × (mapped_at (fill_line_map i ls ns) p ≡ suc (i + j)))
unfolding fill_line_map
fill_line_map_get i [] ns p lo from = inl refl
fill_line_map_get i (l ∷ ls) ns p lo from =
    ⊎_elim old
    (λ (h :
    (j : ℕ) × (j < length ls) × In p (get_or ls j no_line).positions
    × (mapped_at (fill_line_map (suc i) ls (fill_positions (suc i) l.positions ns)) p ≡ suc (suc i + j))).
    inr (suc h.0, omega arith, h.2, omega arith))
    (fill_line_map_get (suc i) ls (fill_positions (suc i) l.positions ns) p lo (λ m k. from m (inr k)))
  where
    whole : ℕ
    whole = mapped_at (fill_line_map (suc i) ls (fill_positions (suc i) l.positions ns)) p

    old :
        whole ≡ mapped_at (fill_positions (suc i) l.positions ns) p →
        (whole ≡ mapped_at ns p) ⊎ ((j : ℕ) × (j < suc (length ls)) × In p (get_or (l ∷ ls) j no_line).positions × (whole ≡ suc (i + j)))
    old e =
        ⊎_elim (λ (h : mapped_at (fill_positions (suc i) l.positions ns) p ≡ mapped_at ns p). inl (e ∙ h))
        (λ (h : In p l.positions × (mapped_at (fill_positions (suc i) l.positions ns) p ≡ suc i)).
        let value : whole ≡ suc (i + 0) = omega arith in inr (0, omega arith, h.0, value))
        (fill_positions_get (suc i) l.positions ns p lo (from l (inl refl)))

fill_line_map_keeps : (i : ℕ) (ls : List Line) (ns : List ℕ) (p : ℕ) → 1 ≤ mapped_at ns p → 1 ≤ mapped_at (fill_line_map i ls ns) p
unfolding fill_line_map
fill_line_map_keeps i [] ns p h = h
fill_line_map_keeps i (l ∷ ls) ns p h =
    fill_line_map_keeps (suc i) ls (fill_positions (suc i) l.positions ns) p
    (fill_positions_keeps (suc i) l.positions ns p (omega arith) h)

fill_line_map_put :
    (i : ℕ) (ls : List Line) (ns : List ℕ) (p j : ℕ) → 1 ≤ p → p ≤ length ns → In p (get_or ls j no_line).positions →
    1 ≤ mapped_at (fill_line_map i ls ns) p
unfolding fill_line_map no_line line
fill_line_map_put i [] ns p j lo hi m = absurd m
fill_line_map_put i (l ∷ ls) ns p zero lo hi m =
    fill_line_map_keeps (suc i) ls (fill_positions (suc i) l.positions ns) p
    (fill_positions_put (suc i) l.positions ns p (omega arith) lo hi m)
fill_line_map_put i (l ∷ ls) ns p (suc j) lo hi m =
    fill_line_map_put (suc i) ls (fill_positions (suc i) l.positions ns) p j lo
    (omega (arith, length_fill_positions (suc i) l.positions ns)) m

-- The line map of all lines of a readable slice, on a list where no position was mapped.
pub line_map_mapped :
    {lex : Lexicon} → GoodLexicon lex → (g : ℕ) (xs : List ℕ) → readable g lex xs ≡ true → (ns : List ℕ) → n_of xs ≤ length ns →
    ((p : ℕ) → 1 ≤ p → mapped_at ns p ≡ 0) → LineMap xs (mapped_at (fill_line_map 0 (lines_in xs) ns))
unfolding line
line_map_mapped {lex} good g xs can ns room clear = record { real = λ p i. real p i; each = λ p i. each p i }
  where
    good_line : (l : Line) → In l (lines_in xs) → GoodLine lex (n_of xs) l
    good_line l m = (readable_get g lex xs can).lines.each l m

    from : (l : Line) → In l (lines_in xs) → (q : ℕ) → In q l.positions → 1 ≤ q
    from l m q k = rise_least 1 l.positions q (good_line l m).rise k

    real : (p i : ℕ) → 1 ≤ p → mapped_at (fill_line_map 0 (lines_in xs) ns) p ≡ suc i → (i < keys_of xs) × In p (line_of xs i).positions
    real p i lo e =
        ⊎_elim
        (λ (h : mapped_at (fill_line_map 0 (lines_in xs) ns) p ≡ mapped_at ns p). absurd (omega (arith, clear p lo)))
        (λ (h :
        (j : ℕ) × (j < length (lines_in xs)) × In p (get_or (lines_in xs) j no_line).positions
        × (mapped_at (fill_line_map 0 (lines_in xs) ns) p ≡ suc (0 + j))).
        let same : h.0 ≡ i = omega arith in
        let below : i < keys_of xs = omega (arith, length_lines_in xs) in
        (below, rw (same, getD_lines_in xs i below) at h.2))
        (fill_line_map_get 0 (lines_in xs) ns p lo from)

    each : (p i : ℕ) → i < keys_of xs → In p (line_of xs i).positions → 1 ≤ mapped_at (fill_line_map 0 (lines_in xs) ns) p
    each p i b m =
        let here : In (line_of xs i) (lines_in xs) = line_of_in xs i b in
        let h : GoodLine lex (n_of xs) (line_of xs i) = good_line (line_of xs i) here in
        fill_line_map_put 0 (lines_in xs) ns p i (from (line_of xs i) here p m)
        (omega (arith, h.fits p m, spells_some good (line_of xs i).key_of h.is_key)) (rw (getD_lines_in xs i b) m)
