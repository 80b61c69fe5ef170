-- In the arm of each number, the match has told that number.
use Rattle.reason.specs.Once.{listed_lem, not_listed}
use Rattle.reason.proofs.ReasonTryFromU64.try_from.Goals as goal

pub returns-in_default : goal.returns-in_default
returns-in_default c = not_listed c.args.number c.in_default.in_default-own.rest

pub returns-in-1 : goal.returns-in-1
returns-in-1 c = listed_lem c.in-1.is

pub returns-in-2 : goal.returns-in-2
returns-in-2 c = listed_lem c.in-2.is

pub returns-in-3 : goal.returns-in-3
returns-in-3 c = listed_lem c.in-3.is

pub returns-in-4 : goal.returns-in-4
returns-in-4 c = listed_lem c.in-4.is

pub returns-in-5 : goal.returns-in-5
returns-in-5 c = listed_lem c.in-5.is

pub returns-in-6 : goal.returns-in-6
returns-in-6 c = listed_lem c.in-6.is

pub returns-in-7 : goal.returns-in-7
returns-in-7 c = listed_lem c.in-7.is

pub returns-in-8 : goal.returns-in-8
returns-in-8 c = listed_lem c.in-8.is

pub returns-in-10 : goal.returns-in-10
returns-in-10 c = listed_lem c.in-10.is

pub returns-in-11 : goal.returns-in-11
returns-in-11 c = listed_lem c.in-11.is

pub returns-in-12 : goal.returns-in-12
returns-in-12 c = listed_lem c.in-12.is

pub returns-in-13 : goal.returns-in-13
returns-in-13 c = listed_lem c.in-13.is

pub returns-in-14 : goal.returns-in-14
returns-in-14 c = listed_lem c.in-14.is

pub returns-in-15 : goal.returns-in-15
returns-in-15 c = listed_lem c.in-15.is

pub returns-in-16 : goal.returns-in-16
returns-in-16 c = listed_lem c.in-16.is

pub returns-in-17 : goal.returns-in-17
returns-in-17 c = listed_lem c.in-17.is

pub returns-in-18 : goal.returns-in-18
returns-in-18 c = listed_lem c.in-18.is

pub returns-in-19 : goal.returns-in-19
returns-in-19 c = listed_lem c.in-19.is

pub returns-in-20 : goal.returns-in-20
returns-in-20 c = listed_lem c.in-20.is

pub returns-in-30 : goal.returns-in-30
returns-in-30 c = listed_lem c.in-30.is

pub returns-in-31 : goal.returns-in-31
returns-in-31 c = listed_lem c.in-31.is

pub returns-in-32 : goal.returns-in-32
returns-in-32 c = listed_lem c.in-32.is

pub returns-in-33 : goal.returns-in-33
returns-in-33 c = listed_lem c.in-33.is

pub returns-in-34 : goal.returns-in-34
returns-in-34 c = listed_lem c.in-34.is

pub returns-in-35 : goal.returns-in-35
returns-in-35 c = listed_lem c.in-35.is

pub returns-in-36 : goal.returns-in-36
returns-in-36 c = listed_lem c.in-36.is

pub returns-in-37 : goal.returns-in-37
returns-in-37 c = listed_lem c.in-37.is

pub returns-in-38 : goal.returns-in-38
returns-in-38 c = listed_lem c.in-38.is

pub returns-in-39 : goal.returns-in-39
returns-in-39 c = listed_lem c.in-39.is

pub returns-in-40 : goal.returns-in-40
returns-in-40 c = listed_lem c.in-40.is

pub returns-in-41 : goal.returns-in-41
returns-in-41 c = listed_lem c.in-41.is

pub returns-in-42 : goal.returns-in-42
returns-in-42 c = listed_lem c.in-42.is

pub returns-in-43 : goal.returns-in-43
returns-in-43 c = listed_lem c.in-43.is

pub returns-in-44 : goal.returns-in-44
returns-in-44 c = listed_lem c.in-44.is

pub returns-in-45 : goal.returns-in-45
returns-in-45 c = listed_lem c.in-45.is

pub returns-in-46 : goal.returns-in-46
returns-in-46 c = listed_lem c.in-46.is

pub returns-in-47 : goal.returns-in-47
returns-in-47 c = listed_lem c.in-47.is

pub returns-in-48 : goal.returns-in-48
returns-in-48 c = listed_lem c.in-48.is

pub returns-in-49 : goal.returns-in-49
returns-in-49 c = listed_lem c.in-49.is

pub returns-in-50 : goal.returns-in-50
returns-in-50 c = listed_lem c.in-50.is

pub returns-in-51 : goal.returns-in-51
returns-in-51 c = listed_lem c.in-51.is

pub returns-in-52 : goal.returns-in-52
returns-in-52 c = listed_lem c.in-52.is

pub returns-in-53 : goal.returns-in-53
returns-in-53 c = listed_lem c.in-53.is

pub returns-in-54 : goal.returns-in-54
returns-in-54 c = listed_lem c.in-54.is

pub returns-in-55 : goal.returns-in-55
returns-in-55 c = listed_lem c.in-55.is

pub returns-in-56 : goal.returns-in-56
returns-in-56 c = listed_lem c.in-56.is

pub returns-in-57 : goal.returns-in-57
returns-in-57 c = listed_lem c.in-57.is

pub returns-in-58 : goal.returns-in-58
returns-in-58 c = listed_lem c.in-58.is

pub returns-in-59 : goal.returns-in-59
returns-in-59 c = listed_lem c.in-59.is

pub returns-in-60 : goal.returns-in-60
returns-in-60 c = listed_lem c.in-60.is

pub returns-in-61 : goal.returns-in-61
returns-in-61 c = listed_lem c.in-61.is

pub returns-in-62 : goal.returns-in-62
returns-in-62 c = listed_lem c.in-62.is

pub returns-in-63 : goal.returns-in-63
returns-in-63 c = listed_lem c.in-63.is

pub returns-in-64 : goal.returns-in-64
returns-in-64 c = listed_lem c.in-64.is

pub returns-in-65 : goal.returns-in-65
returns-in-65 c = listed_lem c.in-65.is

pub returns-in-70 : goal.returns-in-70
returns-in-70 c = listed_lem c.in-70.is

pub returns-in-71 : goal.returns-in-71
returns-in-71 c = listed_lem c.in-71.is

pub returns-in-72 : goal.returns-in-72
returns-in-72 c = listed_lem c.in-72.is

pub returns-in-73 : goal.returns-in-73
returns-in-73 c = listed_lem c.in-73.is

pub returns-in-80 : goal.returns-in-80
returns-in-80 c = listed_lem c.in-80.is

pub returns-in-81 : goal.returns-in-81
returns-in-81 c = listed_lem c.in-81.is

pub returns-in-82 : goal.returns-in-82
returns-in-82 c = listed_lem c.in-82.is

pub returns-in-83 : goal.returns-in-83
returns-in-83 c = listed_lem c.in-83.is

pub returns-in-84 : goal.returns-in-84
returns-in-84 c = listed_lem c.in-84.is

pub returns-in-85 : goal.returns-in-85
returns-in-85 c = listed_lem c.in-85.is

pub returns-in-91 : goal.returns-in-91
returns-in-91 c = listed_lem c.in-91.is
