-- The text of a unit is made segment by segment.
use Rattle.std.proofs.Common.{◌≡◌, inl, inr, ℕ, ◌+◌, Bool, true, if◌then◌else◌, [], ◌∷◌, ◌++◌, append-nil, length, Option, refl, sym, ap, ◌∙◌, arith}
use Rattle.std.proofs.lemmas.Bool.{cond_both}
use Rattle.nesting_laws.specs.Plans.{Plan}
use Rattle.region_laws.specs.Regions.{Region, off, text_of}
use Rattle.unit_regions.specs.MadeCharts.{chart_of}
use Rattle.unit_regions.specs.MadeLaws.{TextEnds, TextGoesOn, TextStops}
use Rattle.unit_regions.specs.UnitCounts.{one_without}
use Rattle.unit_regions.specs.UnitRegion.{Section, falls_off, followed_by, region_by, unit_region}
use Rattle.unit_regions.proofs.Following.{followed_by_text}
use Rattle.std.proofs.lemmas.Bool.{and_parts}

-- a region with nothing behind it
text_alone : (next : ℕ) (r : Region) → text_of next r ≡ text_of next (followed_by r off)
text_alone next r =
    sym (followed_by_text next r off
    ∙ cond_both (falls_off r) [] [] (λ xs. text_of next r ++ xs ≡ text_of next r) (λ e. append-nil (text_of next r)) (λ e. append-nil (text_of next r)))

-- one that falls off its end, before another
text_before : (next : ℕ) (r more : Region) → falls_off r ≡ true → text_of next r ++ text_of next more ≡ text_of next (followed_by r more)
text_before next r more e =
    sym (followed_by_text next r more ∙ ap (λ (flag : Bool). text_of next r ++ (if flag then text_of next more else [])) e)

one_alone : (plan : Option Plan) → one_without plan ≡ one_without plan + 0
one_alone plan = omega arith

abbrev section_of : ℕ → ℕ → Option Plan → Section
section_of b past plan = record { first = b; past = past; plan = plan }

pub text_ends : TextEnds
text_ends nodes reached lasts next b plan is = (
  section_of b (length nodes) plan ∷ [],
  (refl, refl, is, refl),
  text_alone next (region_by (chart_of nodes reached lasts []) b (length nodes) plan),
  one_alone plan,
)

pub text_stops : TextStops
text_stops nodes reached lasts next b cut cuts plan is e = (
  section_of b cut plan ∷ [],
  (refl, refl, is, inl (e, refl)),
  text_alone next (region_by (chart_of nodes reached lasts []) b cut plan),
  one_alone plan,
)

pub text_goes_on : TextGoesOn
text_goes_on nodes reached lasts next b cut cuts plan body loops is e (sections, are, same, count) =
    let c = chart_of nodes reached lasts [] in let r = region_by c b cut plan in (
      section_of b cut plan ∷ sections,
      (refl, refl, is, inr (e, are)),
      ap (λ ys. text_of next r ++ ys) same ∙ text_before next r (unit_region c sections) (and_parts (reached cut) (falls_off r) e).1,
      ap (λ n. one_without plan + n) count,
    )
