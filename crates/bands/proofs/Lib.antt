-- A plan's cost for prices within bands lies between its costs at the ends (Monotone).
pub mod Monotone
