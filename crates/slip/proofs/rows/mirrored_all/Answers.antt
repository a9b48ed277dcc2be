use Prim.Native.Nat.{ℕ, ◌≤◌}
use mathlib.Core.Path.{◌≡◌, ap, ◌∙◌}
use mathlib.Core.List.{List, map, map-map, append-nil}
use native.Mathlib.Omega.{arith}
use lib.ListN.{length, get_or, length-append, length-map, length-take, length-drop}
use Rattle.std.proofs.lemmas.List.{take_all, drop_all, get_or_default}
use Rattle.std.proofs.lemmas.List.Edits.{map_over_more}
use Rattle.tables.specs.Columns.{office_number}
use Rattle.register.specs.Types.{Office}
use Rattle.register.specs.Books.{office}
use Rattle.slip.specs.Rows.{mirror}
use Rattle.slip.proofs.rows.mirrored_all.Goals as goal

-- an office by its place
abbrev placed : ℕ → Office → Office
placed n o = office (mirror n o.0)

-- the places of offices as numbers
numbers : (n : ℕ) (offices : List Office) → map office_number (map (placed n) offices) ≡ map (mirror n) (map office_number offices)
numbers n offices = simp map-map

pub loop-place-preserved : goal.loop-place-preserved
loop-place-preserved c =
    let i : ℕ = c.loop-place.place-index in
    let q : Office = get_or c.loop-place.place-items i (office 0) in
    let long : length c.loop-place.place-items ≡ length c.args.offices =
    ap length c.loop-place.invariant ∙ simp (length-append, length-map, length-take, length-drop) (omega arith) in
    let is : c.mirrored.result ≡ placed c.args.n q = ap office c.mirrored.ensures in
    rw is
    (map_over_more (placed c.args.n) c.args.offices c.loop-place.place-items i q (omega arith) c.loop-place.invariant
    (get_or_default c.loop-place.place-items i (office 0) q (omega (arith, long))))

pub returns : goal.returns
returns c =
    let past : length c.args.offices ≤ c.loop-place.place-index = omega arith in
    let all : c.loop-place.place-items ≡ map (placed c.args.n) c.args.offices =
    c.loop-place.invariant ∙ rw (take_all _ _ past, drop_all _ _ past) (append-nil _) in
    rw all (numbers c.args.n c.args.offices)
