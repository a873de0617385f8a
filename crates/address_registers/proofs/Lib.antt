mod PointerCases
