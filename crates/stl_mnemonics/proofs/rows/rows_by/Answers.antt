use Rattle.std.proofs.Common.{ap, rules, sym, tests}
use Rattle.stl_mnemonics.proofs.LowBitsLaws.{no_rows}
use Rattle.stl_mnemonics.specs.inner.LowBits.{rows_by, table}
use Rattle.stl_mnemonics.proofs.rows.rows_by.Goals as goal

pub returns-in-1 : goal.returns-in-1
unfolding rows_by table
returns-in-1 c = ap rows_by (sym c.in-1.is)

pub returns-in-2 : goal.returns-in-2
unfolding rows_by table
returns-in-2 c = ap rows_by (sym c.in-2.is)

pub returns-in-3 : goal.returns-in-3
unfolding rows_by table
returns-in-3 c = ap rows_by (sym c.in-3.is)

pub returns-in-4 : goal.returns-in-4
unfolding rows_by table
returns-in-4 c = ap rows_by (sym c.in-4.is)

pub returns-in-5 : goal.returns-in-5
unfolding rows_by table
returns-in-5 c = ap rows_by (sym c.in-5.is)

pub returns-in-6 : goal.returns-in-6
unfolding rows_by table
returns-in-6 c = ap rows_by (sym c.in-6.is)

pub returns-in-9 : goal.returns-in-9
unfolding rows_by table
returns-in-9 c = ap rows_by (sym c.in-9.is)

pub returns-in-10 : goal.returns-in-10
unfolding rows_by table
returns-in-10 c = ap rows_by (sym c.in-10.is)

pub returns-in-11 : goal.returns-in-11
unfolding rows_by table
returns-in-11 c = ap rows_by (sym c.in-11.is)

pub returns-in-12 : goal.returns-in-12
unfolding rows_by table
returns-in-12 c = ap rows_by (sym c.in-12.is)

pub returns-in-13 : goal.returns-in-13
unfolding rows_by table
returns-in-13 c = ap rows_by (sym c.in-13.is)

pub returns-in-14 : goal.returns-in-14
unfolding rows_by table
returns-in-14 c = ap rows_by (sym c.in-14.is)

pub returns-in-15 : goal.returns-in-15
unfolding rows_by table
returns-in-15 c = ap rows_by (sym c.in-15.is)

pub returns-in-16 : goal.returns-in-16
unfolding rows_by table
returns-in-16 c = ap rows_by (sym c.in-16.is)

pub returns-in-18 : goal.returns-in-18
unfolding rows_by table
returns-in-18 c = ap rows_by (sym c.in-18.is)

pub returns-in-19 : goal.returns-in-19
unfolding rows_by table
returns-in-19 c = ap rows_by (sym c.in-19.is)

pub returns-in-20 : goal.returns-in-20
unfolding rows_by table
returns-in-20 c = ap rows_by (sym c.in-20.is)

pub returns-in-21 : goal.returns-in-21
unfolding rows_by table
returns-in-21 c = ap rows_by (sym c.in-21.is)

pub returns-in-24 : goal.returns-in-24
unfolding rows_by table
returns-in-24 c = ap rows_by (sym c.in-24.is)

pub returns-in-28 : goal.returns-in-28
unfolding rows_by table
returns-in-28 c = ap rows_by (sym c.in-28.is)

pub returns-in-29 : goal.returns-in-29
unfolding rows_by table
returns-in-29 c = ap rows_by (sym c.in-29.is)

pub returns-in-30 : goal.returns-in-30
unfolding rows_by table
returns-in-30 c = ap rows_by (sym c.in-30.is)

pub returns-in_default : goal.returns-in_default
returns-in_default c = no_rows c.args.bits (search (tests, rules))
