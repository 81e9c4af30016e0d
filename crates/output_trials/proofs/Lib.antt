mod ClientDays
